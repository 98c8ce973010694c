-- `text::Line::put`: behind the text that is written zeros stay. Assumes nothing.
use mathlib.Core.Path.{◌∙◌}
use native.Mathlib.Omega.{arith}
use borrow.Author.Rules.{rules}
use Rattle.std.proofs.Common.{length, ◌+◌, ◌-◌}
use Rattle.std.proofs.lemmas.Slice.{drop-put_mid}
use Rattle.text.proofs.Behind.{zeros_stay}
use Rattle.text.proofs.Line.put.Goals as goal

pub invariant_of-self : goal.invariant_of-self
invariant_of-self g c =
    let line = c.self.inside in
    let more = length c.args.text.now in
    let end = line.len + more in
    let sized = c.copy_from_slice.ensures in
    record {
      sized = search rules;
      within = search rules;
      behind =
          drop-put_mid line.len (end - line.len) line.bytes _ end (omega arith) (omega (arith, c.self.invariant)) (omega (arith, sized))
          ∙ zeros_stay line.len more g.row.ROOM line.bytes c.self.invariant.behind;
    }
