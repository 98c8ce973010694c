-- Whole numbers are added and negated as the laws of a decoder of readings ask, and 65,536 steps take no metric further
-- than 2^24, which leaves room. Laws, which the implementation in src/ cites. Assumes nothing.
use mathlib.Core.Bool.{true}
use mathlib.Core.Logic.{inl, inr, ⊎_elim}
use mathlib.Core.Path.{◌≡◌, refl}
use Prim.Native.Nat.{ℕ, ◌≤◌}
use native.Mathlib.Omega.{arith}
use lib.IntN.{ℤ, pos, nat_abs, ◌+ℤ◌, neg_ℤ-neg_ℤ}
use lib.Signed.{lt_z}
use Rattle.best_path.specs.Path.{none, total}
use Rattle.correlation.specs.Whole.{whole}
use Rattle.correlation.proofs.Sides.{Lawful}
use Rattle.signed_butterflies.specs.Held.{floor, Near, total_of}
use Rattle.steps.specs.Holding.{Sound}
use Rattle.signed_forward.specs.Inner.{exactly_held}

whole_lawful : Lawful whole
whole_lawful = record { subtracts = λ a b. refl; twice = neg_ℤ-neg_ℤ }

below_floor : (x : ℤ) → lt_z x floor ≡ true → total_of x ≡ none
unfolding total_of
below_floor x h = rw h

zero_total : total_of (pos 0) ≡ total (pos 0)
unfolding total_of
zero_total = refl

near_up : (bound more : ℕ) → bound ≤ more → (x : ℤ) → Near bound x → Near more x
near_up bound more h x near =
    record { near = ⊎_elim (λ k. inl (omega (arith, k))) (λ k. inr (omega (arith, k))) near.near }

-- a state that is not reached starts below the floor, at −2^30
pub exactly_sound : (x : ℤ) → lt_z x floor ≡ true → nat_abs (x +ℤ pos 1073741824) ≡ 0 → Sound exactly_held x (pos 0)
exactly_sound x below there =
    record {
      lawful = whole_lawful;
      zero_asked = record { small = omega arith };
      of_mark = below_floor x below;
      of_first = zero_total;
      mark_near = record { near = inr (omega (arith, there)) };
      first_near = record { near = inl (omega arith) };
      nearer = near_up;
      room = omega arith;
    }
