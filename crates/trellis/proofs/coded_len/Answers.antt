-- `trellis::coded_len`: document 01's formula, term by term. Assumes nothing.
use Rattle.trellis.proofs.Columns.{coded_terms}
use Rattle.trellis.proofs.coded_len.Goals as goal

pub returns : goal.returns
returns c = coded_terms _ c.requires.rows c.ones.ensures c.ones-2.ensures
