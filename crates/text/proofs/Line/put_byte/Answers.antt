-- `text::Line::put_byte`: behind the byte that is written zeros stay. Assumes nothing.
use mathlib.Core.Path.{◌∙◌}
use native.Mathlib.Omega.{arith}
use borrow.Author.Rules.{rules}
use Rattle.std.proofs.Common.{◌+◌}
use Rattle.std.proofs.lemmas.List.{drop-set-lt}
use Rattle.text.proofs.Behind.{zeros_stay}
use Rattle.text.proofs.Line.put_byte.Goals as goal

pub invariant_of-self : goal.invariant_of-self
invariant_of-self g c =
    let line = c.self.inside in
    record {
      sized = search rules;
      within = search rules;
      behind =
          drop-set-lt (line.len + 1) line.bytes line.len c.args.byte (omega arith)
          ∙ zeros_stay line.len 1 g.row.ROOM line.bytes c.self.invariant.behind;
    }
