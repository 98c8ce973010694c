-- A turn's two sides, each a reading or its negative: what the branches bring by them is at most 254, and fits. Assumes nothing.
use mathlib.Core.Bool.{Bool, true, false, cond}
use mathlib.Core.Path.{◌≡◌, ap, ap₂, ◌∙◌}
use Prim.Native.Nat.{ℕ, ◌≤◌}
use native.Mathlib.Omega.{arith}
use lib.Dec.{eqb}
use lib.IntN.{ℤ, pos, neg_ℤ, nat_abs, ◌+ℤ◌, ◌-ℤ◌}
use mir.Syntax.{w32}
use mir.Val.{SFits, to_z, of_z}
use Rattle.best_path.proofs.Sizes.{abs_neg, abs-add}
use Rattle.best_path.specs.declared.pair.Wing.{Wing}
use Rattle.signed_butterflies.specs.Held.{Byte, side, Gained, Summed, Turned}
use Rattle.signed_butterflies.proofs.Words.{small_fits, back, sum_fits, sum_back, neg-fits, neg-back}

-- a number as the machine reads it back
abbrev again : ℤ → ℤ
again x = to_z w32 (of_z w32 x)

pub record Sided (coded : ℕ) (a x : ℤ) : Type 0 where
  pub is : x ≡ side coded a
  pub small : nat_abs x ≤ 127

side_size : (a : ℤ) → Byte a → (b : Bool) → nat_abs (cond b a (neg_ℤ a)) ≤ 127
side_size a byte true = byte.small
side_size a byte false = omega (arith, abs_neg a, byte.small)

-- from what `signed` says of it
pub sided : {coded : ℕ} {a x : ℤ} → SFits w32 a → Byte a → x ≡ side coded (again a) → Sided coded a x
sided {coded} {a} {x} fits byte e =
    let is : x ≡ side coded a = e ∙ ap (side coded) (back a fits) in
    record { is = is; small = rw is (side_size a byte (eqb coded 0)) }

module _ {c0 c1 : ℕ} {a b x y : ℤ} (of_x : Sided c0 a x) (of_y : Sided c1 b y) where
  fits_x : SFits w32 x
  fits_x = small_fits x (omega (arith, of_x.small))

  fits_y : SFits w32 y
  fits_y = small_fits y (omega (arith, of_y.small))

  -- x + y
  sum_small : nat_abs (x +ℤ y) ≤ 254
  sum_small = omega (arith, abs-add x y, of_x.small, of_y.small)

  sum_fits_plain : SFits w32 (x +ℤ y)
  sum_fits_plain = small_fits (x +ℤ y) (omega (arith, sum_small))

  pub sides_sum_fits : SFits w32 (again x +ℤ again y)
  sides_sum_fits = sum_fits x y fits_x fits_y sum_fits_plain

  sum_plain : again (again x +ℤ again y) ≡ x +ℤ y
  sum_plain = sum_back x y fits_x fits_y sum_fits_plain

  pub sum_gained : Gained (again (again x +ℤ again y))
  sum_gained = rw sum_plain (record { small = sum_small })

  -- -x - y
  pub side_negative_fits : SFits w32 (pos 0 -ℤ again x)
  side_negative_fits = neg-fits x fits_x (omega (arith, of_x.small))

  difference_small : nat_abs (neg_ℤ x -ℤ y) ≤ 254
  difference_small = omega (arith, abs-add (neg_ℤ x) (neg_ℤ y), abs_neg x, abs_neg y, of_x.small, of_y.small)

  difference_plain_inner : again (pos 0 -ℤ again x) -ℤ again y ≡ neg_ℤ x -ℤ y
  difference_plain_inner = ap₂ (λ (v w : ℤ). v -ℤ w) (neg-back x fits_x (omega (arith, of_x.small))) (back y fits_y)

  pub sides_difference_fits : SFits w32 (again (pos 0 -ℤ again x) -ℤ again y)
  sides_difference_fits = rw difference_plain_inner (small_fits (neg_ℤ x -ℤ y) (omega (arith, difference_small)))

  difference_plain : again (again (pos 0 -ℤ again x) -ℤ again y) ≡ neg_ℤ x -ℤ y
  difference_plain = back _ sides_difference_fits ∙ difference_plain_inner

  pub difference_gained : Gained (again (again (pos 0 -ℤ again x) -ℤ again y))
  difference_gained = rw difference_plain (record { small = difference_small })

  -- so what `butterfly` says is what `turn` promises
  pub sides_turned :
      {m0 m1 : ℤ} {s : ℕ} {r : Wing ℤ} → SFits w32 m0 → SFits w32 m1 →
      Summed (again m0) (again m1) s (again (again x +ℤ again y)) (again (again (pos 0 -ℤ again x) -ℤ again y)) r →
      Turned c0 c1 a b m0 m1 s r
  sides_turned f g summed =
      rw (← of_x.is, ← of_y.is) (rw (back _ f, back _ g, sum_plain, difference_plain) at summed)
