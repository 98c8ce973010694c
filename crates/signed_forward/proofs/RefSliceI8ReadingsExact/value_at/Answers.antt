-- `signed_forward::value_at`: a reading that was received, and one that is missing. Assumes nothing.
use mathlib.Core.Path.{◌∙◌}
use lib.IntN.{pos}
use lib.ListN.{get_or}
use Rattle.signed_butterflies.proofs.Words.{widened}
use Rattle.trellis.proofs.Places.{reads_received, reads_missing}
use Rattle.signed_forward.proofs.RefSliceI8ReadingsExact.value_at.Goals as goal

pub returns-then-at-self : goal.returns-then-at-self
returns-then-at-self c =
    widened (get_or c.args.self.now.now c.args.at (pos 0)) (search)
    ∙ reads_received (pos 0) c.args.column c.args.self.now.now c.args.at (pos 0) c.if-column-eq1.true c.if-at-self.true

pub returns-else-at-self : goal.returns-else-at-self
returns-else-at-self c =
    reads_missing (pos 0) c.args.column c.args.self.now.now c.args.at c.if-column-eq1.true c.if-at-self.false
