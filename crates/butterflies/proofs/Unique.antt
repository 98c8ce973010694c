-- Of what other crates may call, any two outcomes that its contract allows are equal; and so are those of a butterfly by f32
-- metrics, of which each stands for itself. `Post` is the contract as the prover reads it: of what the call is given, what it
-- returns, and what it leaves in each argument. Assumes nothing.
use mathlib.Core.Bool.{Bool}
use mathlib.Core.Path.{◌≡◌, sym, ap, ap₂, ◌∙◌}
use lib.Ieee.{Float}
use Rattle.best_path.specs.Metric.{Metric}
use Rattle.best_path.specs.Pair.{Summed}
use Rattle.best_path.specs.Step.{Cell}
use Rattle.best_path.specs.declared.pair.NewState.{NewState}
use Rattle.best_path.specs.declared.pair.Wing.{Wing}
use Rattle.butterflies.specs.Orderly.{floats_held}
use Rattle.butterflies.proofs.largest.signed.Reads as signed
use Rattle.butterflies.proofs.largest.LargestOrder.better.Reads as larger
use Rattle.butterflies.proofs.largest.LargestOrder.candidate.Reads as sum
use Rattle.butterflies.proofs.smallest.SmallestOrder.better.Reads as smaller
use Rattle.butterflies.proofs.smallest.SmallestOrder.candidate.Reads as cost

pub signed_once :
    (κs coded a : _) (r r' : Float) → signed.Post κs (coded, (a, tt)) r (coded, (a, tt)) →
    signed.Post κs (coded, (a, tt)) r' (coded, (a, tt)) → r ≡ r'
signed_once κs coded a r r' p q = p ∙ sym q

pub larger_once :
    (κs x z : _) (r r' : Bool) → larger.Post κs (x, (z, tt)) r (x, (z, tt)) → larger.Post κs (x, (z, tt)) r' (x, (z, tt)) → r ≡ r'
larger_once κs x z r r' p q = p ∙ sym q

pub sum_once :
    (κs m x : _) (r r' : Float) → sum.Post κs (m, (x, tt)) r (m, (x, tt)) → sum.Post κs (m, (x, tt)) r' (m, (x, tt)) → r ≡ r'
sum_once κs m x r r' p q = p ∙ sym q

pub smaller_once :
    (κs x z : _) (r r' : Bool) → smaller.Post κs (x, (z, tt)) r (x, (z, tt)) → smaller.Post κs (x, (z, tt)) r' (x, (z, tt)) → r ≡ r'
smaller_once κs x z r r' p q = p ∙ sym q

pub cost_once :
    (κs m x : _) (r r' : Float) → cost.Post κs (m, (x, tt)) r (m, (x, tt)) → cost.Post κs (m, (x, tt)) r' (m, (x, tt)) → r ≡ r'
cost_once κs m x r r' p q = p ∙ sym q

abbrev new_state : Cell Float → NewState Float
new_state c = record { met = c.met; from = c.from }

abbrev wing_of : NewState Float → NewState Float → Wing Float
wing_of low high = record { low = low; high = high }

pub wings_once :
    (op : Metric Float Float) (m0 m1 s x y : _) (r r' : Wing Float) →
    Summed (floats_held op) m0 m1 s x y r → Summed (floats_held op) m0 m1 s x y r' → r ≡ r'
wings_once op m0 m1 s x y r r' p q =
    ap₂ wing_of (ap new_state (p.led.low ∙ sym q.led.low)) (ap new_state (p.led.high ∙ sym q.led.high))
