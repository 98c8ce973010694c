-- Of what other crates may call, any two outcomes that its contract allows are equal. `Post` is the contract as the prover reads
-- it: of what the call is given, what it returns, and what it leaves in each argument. Assumes nothing.
use mathlib.Core.Path.{◌≡◌, sym, ◌∙◌}
use lib.Ieee.{Float}
use Rattle.best_path.specs.declared.pair.Wing.{Wing}
use Rattle.butterflies.proofs.Unique.{wings_once}
use Rattle.butterflies.specs.Largest.{largest}
use Rattle.forward.proofs.SoftDecoder.turn.Reads as turn
use Rattle.forward.proofs.ReadingsReadingsSoft.value_at.Reads as value_at

pub turn_once :
    (κs c0 c1 a b m0 m1 s : _) (r r' : Wing Float) →
    turn.Post κs (c0, (c1, (a, (b, (m0, (m1, (s, tt))))))) r (c0, (c1, (a, (b, (m0, (m1, (s, tt))))))) →
    turn.Post κs (c0, (c1, (a, (b, (m0, (m1, (s, tt))))))) r' (c0, (c1, (a, (b, (m0, (m1, (s, tt))))))) → r ≡ r'
turn_once κs c0 c1 a b m0 m1 s r r' p q = wings_once largest m0 m1 s _ _ r r' p q

pub value_at-once :
    (κs readings column at : _) (r r' : Float) →
    value_at.Post κs (readings, (column, (at, tt))) r (readings, (column, (at, tt))) →
    value_at.Post κs (readings, (column, (at, tt))) r' (readings, (column, (at, tt))) → r ≡ r'
value_at-once κs readings column at r r' p q = p ∙ sym q
