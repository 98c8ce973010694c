-- `trellis::ones_in`: what is counted are the ones. Assumes nothing.
use Rattle.std.proofs.Common.{arith}
use Rattle.std.proofs.lemmas.Grind.{common_steps}
use Rattle.trellis.proofs.Columns.{ones_counted}
use Rattle.trellis.proofs.ones_in.Goals as goal

pub returns : goal.returns
returns c = ones_counted c.args.row.now (grind (arith, common_steps))
