-- Signed numbers in 32 bits: what the machine reads back is what was written, where it fits; and sums that fit. Assumes nothing.
use mathlib.Core.Path.{◌≡◌, sym, ap, ap₂, subst, ◌∙◌}
use Prim.Native.Nat.{◌^◌, ◌≤◌, ◌<◌}
use native.Mathlib.Nat.{le_refl}
use native.Mathlib.Omega.{arith}
use lib.IntN.{ℤ, pos, negsuc, neg_ℤ, nat_abs, ◌+ℤ◌, ◌-ℤ◌, +ℤ_idl}
use lib.Signed.{mag}
use mir.Syntax.{w8, w32}
use mir.Val.{SFits, hbits, to_z, of_z}
use mir.ValLaws.{to_z-of_z}
use Rattle.best_path.proofs.Sizes.{abs_neg}

mag_abs : (z : ℤ) → mag z ≤ nat_abs z
mag_abs (pos n) = le_refl n
mag_abs (negsuc n) = omega arith

pub small_fits : (z : ℤ) → nat_abs z < 2147483648 → SFits w32 z
small_fits z h = record { sfits = omega (arith, mag_abs z) }

-- ---- read back

pub back : (z : ℤ) → SFits w32 z → to_z w32 (of_z w32 z) ≡ z
back = to_z-of_z w32

-- a sum of two numbers
module _ (x y : ℤ) (f : SFits w32 x) (g : SFits w32 y) where
  plain_sum : to_z w32 (of_z w32 x) +ℤ to_z w32 (of_z w32 y) ≡ x +ℤ y
  plain_sum = ap₂ (λ (v w : ℤ). v +ℤ w) (back x f) (back y g)

  pub sum_fits : SFits w32 (x +ℤ y) → SFits w32 (to_z w32 (of_z w32 x) +ℤ to_z w32 (of_z w32 y))
  sum_fits h = subst (SFits w32) (sym plain_sum) h

  pub sum_back : SFits w32 (x +ℤ y) → to_z w32 (of_z w32 (to_z w32 (of_z w32 x) +ℤ to_z w32 (of_z w32 y))) ≡ x +ℤ y
  sum_back h = ap (λ (z : ℤ). to_z w32 (of_z w32 z)) plain_sum ∙ back (x +ℤ y) h

-- the negative of one
module _ (x : ℤ) (f : SFits w32 x) (small : nat_abs x < 2147483648) where
  plain_neg : pos 0 -ℤ to_z w32 (of_z w32 x) ≡ neg_ℤ x
  plain_neg = ap (λ (z : ℤ). pos 0 -ℤ z) (back x f) ∙ +ℤ_idl (neg_ℤ x)

  neg_small : SFits w32 (neg_ℤ x)
  neg_small = small_fits (neg_ℤ x) (omega (arith, abs_neg x))

  pub neg-fits : SFits w32 (pos 0 -ℤ to_z w32 (of_z w32 x))
  neg-fits = subst (SFits w32) (sym plain_neg) neg_small

  pub neg-back : to_z w32 (of_z w32 (pos 0 -ℤ to_z w32 (of_z w32 x))) ≡ neg_ℤ x
  neg-back = ap (λ (z : ℤ). to_z w32 (of_z w32 z)) plain_neg ∙ back (neg_ℤ x) neg_small

-- what is known of a number is known of it as it is read back
pub as_held : (P : ℤ → Type 0) (x : ℤ) → SFits w32 x → P x → P (to_z w32 (of_z w32 x))
as_held P x f h = subst P (sym (back x f)) h

-- a byte read from a slice, and as a number of 32 bits
module _ (z : ℤ) (known : mag z < 2 ^ hbits w8) where
  byte_fits : SFits w8 z
  byte_fits = record { sfits = known }

  wide_fits : SFits w32 z
  wide_fits = record { sfits = omega (arith, known) }

  pub widened : to_z w32 (of_z w32 (to_z w8 (of_z w8 z))) ≡ z
  widened = ap (λ (x : ℤ). to_z w32 (of_z w32 x)) (to_z-of_z w8 z byte_fits) ∙ back z wide_fits
