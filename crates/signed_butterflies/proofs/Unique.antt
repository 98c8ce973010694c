-- Of what other crates may call, any two outcomes that its contract allows stand for the same new states; of a metric that
-- stands for no total nothing more is said. `Post` is the contract as the prover reads it: of what the call is given, what it
-- returns, and what it leaves in each argument. Assumes nothing.
use mathlib.Core.Bool.{Bool}
use mathlib.Core.Path.{◌≡◌, sym, ◌∙◌}
use lib.IntN.{ℤ}
use Rattle.best_path.specs.declared.pair.Wing.{Wing}
use Rattle.signed_butterflies.specs.Held.{cell_of}
use Rattle.signed_butterflies.proofs.SumsOrder.better.Reads as larger
use Rattle.signed_butterflies.proofs.SumsOrder.candidate.Reads as sum
use Rattle.signed_butterflies.proofs.turn.Reads as turn

pub larger_once :
    (κs x z : _) (r r' : Bool) → larger.Post κs (x, (z, tt)) r (x, (z, tt)) → larger.Post κs (x, (z, tt)) r' (x, (z, tt)) → r ≡ r'
larger_once κs x z r r' p q = p ∙ sym q

pub sum_once :
    (κs m x : _) (r r' : ℤ) → sum.Post κs (m, (x, tt)) r (m, (x, tt)) → sum.Post κs (m, (x, tt)) r' (m, (x, tt)) → r ≡ r'
sum_once κs m x r r' p q = p ∙ sym q

pub turn_once :
    (κs c0 c1 a b m0 m1 s : _) (r r' : Wing ℤ) →
    turn.Post κs (c0, (c1, (a, (b, (m0, (m1, (s, tt))))))) r (c0, (c1, (a, (b, (m0, (m1, (s, tt))))))) →
    turn.Post κs (c0, (c1, (a, (b, (m0, (m1, (s, tt))))))) r' (c0, (c1, (a, (b, (m0, (m1, (s, tt))))))) →
    (cell_of r.low ≡ cell_of r'.low) × (cell_of r.high ≡ cell_of r'.high)
turn_once κs c0 c1 a b m0 m1 s r r' p q = (p.led.low ∙ sym q.led.low, p.led.high ∙ sym q.led.high)
