-- Of what other crates may call, any two outcomes that its contract allows are equal; of a turn they stand for the same new states,
-- and of a metric that stands for no total nothing more is said. `Post` is the contract as the prover reads it: of what the call is
-- given, what it returns, and what it leaves in each argument. Assumes nothing.
use mathlib.Core.Path.{◌≡◌, sym, ◌∙◌}
use lib.IntN.{ℤ}
use Rattle.best_path.specs.declared.pair.Wing.{Wing}
use Rattle.signed_butterflies.specs.Held.{cell_of}
use Rattle.signed_forward.proofs.ExactDecoder.turn.Reads as turn
use Rattle.signed_forward.proofs.RefSliceI8ReadingsExact.value_at.Reads as value_at

pub turn_once :
    (κs c0 c1 a b m0 m1 s : _) (r r' : Wing ℤ) →
    turn.Post κs (c0, (c1, (a, (b, (m0, (m1, (s, tt))))))) r (c0, (c1, (a, (b, (m0, (m1, (s, tt))))))) →
    turn.Post κs (c0, (c1, (a, (b, (m0, (m1, (s, tt))))))) r' (c0, (c1, (a, (b, (m0, (m1, (s, tt))))))) →
    (cell_of r.low ≡ cell_of r'.low) × (cell_of r.high ≡ cell_of r'.high)
turn_once κs c0 c1 a b m0 m1 s r r' p q = (p.led.low ∙ sym q.led.low, p.led.high ∙ sym q.led.high)

pub value_at-once :
    (κs readings column at : _) (r r' : ℤ) →
    value_at.Post κs (readings, (column, (at, tt))) r (readings, (column, (at, tt))) →
    value_at.Post κs (readings, (column, (at, tt))) r' (readings, (column, (at, tt))) → r ≡ r'
value_at-once κs readings column at r r' p q = p ∙ sym q
