-- The sizes of whole numbers: of a negative, and of a sum. Assumes nothing.
use mathlib.Core.Bool.{Bool, true, false, cond}
use mathlib.Core.Path.{◌≡◌, refl}
use Prim.Native.Nat.{ℕ, zero, suc, ◌+◌, ◌-◌, ◌≤◌}
use native.Mathlib.Nat.{le_refl}
use native.Mathlib.Omega.{arith}
use borrow.Author.Tests.{ltb-true}
use lib.Dec.{ltb}
use lib.IntN.{ℤ, pos, negsuc, neg_ℤ, nat_abs, sub_ℕ, ◌+ℤ◌}

pub abs_neg : (a : ℤ) → nat_abs (neg_ℤ a) ≡ nat_abs a
abs_neg (pos zero) = refl
abs_neg (pos (suc n)) = refl
abs_neg (negsuc n) = refl

abs-difference : (a b : ℕ) → nat_abs (sub_ℕ a b) ≤ a + b
abs-difference a b = go (ltb a b) refl
  where
    go : (u : Bool) → ltb a b ≡ u → nat_abs (cond u (negsuc (b - suc a)) (pos (a - b))) ≤ a + b
    go true h = omega (arith, ltb-true)
    go false h = omega arith

pub abs-add : (a b : ℤ) → nat_abs (a +ℤ b) ≤ nat_abs a + nat_abs b
abs-add (pos a) (pos b) = le_refl (a + b)
abs-add (pos a) (negsuc b) = abs-difference a (suc b)
abs-add (negsuc a) (pos b) = omega (arith, abs-difference b (suc a))
abs-add (negsuc a) (negsuc b) = omega arith
