-- `encoder::input_at`: within the list its byte's lowest bit, past the end 0. Assumes nothing.
use mathlib.Core.Path.{sym, ap, ◌∙◌}
use Prim.Native.Nat.{ℕ, ◌%◌}
use lib.ListN.{get_or-eq_default}
use Rattle.trellis.proofs.Sent.{get_d_lowest}
use Rattle.encoder.proofs.input_at.Goals as goal

pub returns-then-t-bits : goal.returns-then-t-bits
returns-then-t-bits c = sym (get_d_lowest _ _)

pub returns-else-t-bits : goal.returns-else-t-bits
returns-else-t-bits c = sym (get_d_lowest _ _ ∙ ap (λ (n : ℕ). n % 2) (get_or-eq_default c.args.bits.now 0 c.if-t-bits.false))
