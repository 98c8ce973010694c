-- f32s are added and negated as the laws of a decoder of readings ask. Laws, which the implementation in src/ cites.
-- Assumes nothing.
use mathlib.Core.Bool.{true, false}
use mathlib.Core.Path.{◌≡◌, refl}
use native.Mathlib.Omega.{arith}
use lib.Ieee.{Float, nan, inf, fin, sub, neg, of_bits}
use Rattle.butterflies.specs.Largest.{mark}
use Rattle.correlation.proofs.Sides.{Lawful}
use Rattle.f32s.specs.Single.{zero32}
use Rattle.steps.specs.Holding.{Sound}
use Rattle.forward.specs.Sums.{floats}
use Rattle.forward.specs.Inner.{soft_held}

neg-neg : (x : Float) → neg (neg x) ≡ x
unfolding neg
neg-neg nan = refl
neg-neg (inf true) = refl
neg-neg (inf false) = refl
neg-neg (fin true m e) = refl
neg-neg (fin false m e) = refl

pub floats_lawful : Lawful floats
unfolding sub
floats_lawful = record { subtracts = λ a b. refl; twice = neg-neg }

pub soft_sound : Sound soft_held mark zero32
unfolding of_bits
soft_sound =
    record {
      lawful = floats_lawful;
      zero_asked = refl;
      of_mark = refl;
      of_first = refl;
      mark_near = tt;
      first_near = tt;
      nearer = λ bound more h x k. tt;
      room = omega arith;
    }
