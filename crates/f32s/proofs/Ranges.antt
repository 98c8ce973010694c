-- Floats from p * 2 ^ j up to q * 2 ^ j: what `<` says of them by their sizes, and the multiple of 2 ^ j next below one. Assumes nothing.
use mathlib.Core.Bool.{Bool, true, false, cond, false≢true}
use mathlib.Core.Path.{◌≡◌, refl, ap, ◌∙◌}
use Prim.Native.Nat.{ℕ, suc, ◌+◌, ◌*◌, ◌/◌, ◌^◌, ◌≤◌, ◌<◌, zero-le}
use native.Mathlib.Nat.{le_trans, le_of_eq, zero-mul, suc-mul, add-mul, mul_assoc, mul_right_comm, mul-pos, mul-le-mul_right}
use native.Mathlib.Nat.{le_of_mul-le-mul_right, div-mul-le_self, lt-div-mul-add}
use native.Mathlib.Omega.{arith}
use borrow.Author.Tests.{ltb-false, le-ltb}
use lib.IntN.{ℤ, pos}
use lib.Pow.{pow_pos}
use lib.Ieee.{Float, nan, inf, fin, binary32, up, down, below, lt, le, is_nan, of_bits}
use lib.Ieee.Fits.{down_pos}
use Rattle.f32s.proofs.Ordered.{not_lt_le}
use Rattle.f32s.specs.Bounded.{LiesBetween, UpTo}

-- the size m * up e / down e is at least p * 2 ^ j
abbrev pub SizeFrom : (p j : ℕ) → Float → Type 0
SizeFrom p j nan = ⊥
SizeFrom p j (inf s) = ⊥
SizeFrom p j (fin s m e) = p * 2 ^ j * down e ≤ m * up e

-- a number from p * 2 ^ j up to q * 2 ^ j
pub record Range (p q j : ℕ) (x : Float) : Type 0 where
  pub from : SizeFrom p j x
  pub up_to : UpTo q j x

-- ---- two numbers from 0 on, by their sizes

-- a number from 0 on has a sign only where it is 0
pub unsigned : (s : Bool) (m : ℕ) (e d : ℤ) (q j : ℕ) → LiesBetween 0 q j (fin s m e) → s ≡ true → m * up e * down d ≡ 0
unsigned true m e d q j h g =
    let nil : m * up e ≤ 0 = le_trans h (le_of_eq (rw (zero-mul (2 ^ j), zero-mul (down e)))) in
    ap (λ (n : ℕ). n * down d) (omega arith) ∙ zero-mul (down d)
unsigned false m e d q j h g = absurd (false≢true g)

pub not_below_sizes : (s t : Bool) (a b : ℕ) → (s ≡ true → a ≡ 0) → (t ≡ true → b ≡ 0) → below s a t b ≡ false → b ≤ a
not_below_sizes false false a b h k e = ltb-false a b e
not_below_sizes false true a b h k e = omega (arith, k refl)
not_below_sizes true false a b h k e = omega (arith, ltb-false 0 (a + b) e)
not_below_sizes true true a b h k e = omega (arith, k refl)

module _ (j : ℕ) where
  pub not_lt_sizes :
      (q r : ℕ) (s t : Bool) (m n : ℕ) (e d : ℤ) → LiesBetween 0 q j (fin s m e) → LiesBetween 0 r j (fin t n d) →
      below s (m * up e * down d) t (n * up d * down e) ≡ false → n * up d * down e ≤ m * up e * down d
  not_lt_sizes q r s t m n e d h k = not_below_sizes s t _ _ (unsigned s m e d q j h) (unsigned t n d e r j k)

  -- what is not below a number from p on is from p on
  pub from_not_below : {x y : Float} {p q r : ℕ} → UpTo q j x → Range p r j y → lt x y ≡ false → Range p q j x
  unfolding lt
  from_not_below {x} {y} {p} {q} {r} u v e = record { from = go x y u.lies v.up_to.lies v.from e; up_to = u }
    where
      go : (x y : Float) → LiesBetween 0 q j x → LiesBetween 0 r j y → SizeFrom p j y → lt x y ≡ false → SizeFrom p j x
      go nan y h k l e = h
      go (inf s) y h k l e = h
      go (fin s m e) nan h k l f = absurd k
      go (fin s m e) (inf t) h k l f = absurd k
      go (fin s m e) (fin t n d) h k l f =
          le_of_mul-le-mul_right
          (le_trans (le_of_eq (mul_right_comm (p * 2 ^ j) (down e) (down d)))
          (le_trans (mul-le-mul_right (down e) l) (not_lt_sizes q r s t m n e d h k f)))
          (down_pos d)

  -- and what a number up to q is not below is up to q
  pub up_to_not_above : {x y : Float} {q r : ℕ} → UpTo q j x → UpTo r j y → lt x y ≡ false → UpTo q j y
  unfolding lt
  up_to_not_above {x} {y} {q} {r} u v e = record { lies = go x y u.lies v.lies e }
    where
      bound :
          (s t : Bool) (n : ℕ) (d : ℤ) → LiesBetween 0 r j (fin t n d) → n * up d ≤ cond s 0 q * 2 ^ j * down d →
          LiesBetween 0 q j (fin t n d)
      bound s true n d k h = k
      bound true false n d k h = le_trans h (rw (zero-mul (2 ^ j), zero-mul (down d)) zero-le)
      bound false false n d k h = h

      go : (x y : Float) → LiesBetween 0 q j x → LiesBetween 0 r j y → lt x y ≡ false → LiesBetween 0 q j y
      go nan y h k e = absurd h
      go (inf s) y h k e = absurd h
      go (fin s m e) nan h k f = k
      go (fin s m e) (inf t) h k f = k
      go (fin s m e) (fin t n d) h k f =
          bound s t n d k
          (le_of_mul-le-mul_right
          (le_trans (not_lt_sizes q r s t m n e d h k f)
          (le_trans (mul-le-mul_right (down d) h) (le_of_eq (mul_right_comm (cond s 0 q * 2 ^ j) (down e) (down d)))))
          (down_pos e))

  -- ---- whole multiples

  pub size_from_zero : (q : ℕ) (x : Float) → LiesBetween 0 q j x → SizeFrom 0 j x
  size_from_zero q nan h = h
  size_from_zero q (inf s) h = h
  size_from_zero q (fin s m e) h = rw (zero-mul (2 ^ j), zero-mul (down e)) zero-le

  pub from_zero : {x : Float} {q : ℕ} → UpTo q j x → Range 0 q j x
  from_zero {x} {q} u = record { from = size_from_zero q x u.lies; up_to = u }

  pub bounds_ordered : {x : Float} {p q : ℕ} → Range p q j x → p ≤ q
  bounds_ordered {x} {p} {q} v = go x v.from v.up_to.lies
    where
      at_most : (s : Bool) → cond s 0 q ≤ q
      at_most true = zero-le
      at_most false = omega arith

      go : (x : Float) → SizeFrom p j x → LiesBetween 0 q j x → p ≤ q
      go nan l h = absurd l
      go (inf s) l h = absurd l
      go (fin s m e) l h =
          le_trans (le_of_mul-le-mul_right (le_of_mul-le-mul_right (le_trans l h) (down_pos e)) (pow_pos j)) (at_most s)

  -- the multiple of 2 ^ j next below
  pub floored : {x : Float} {q : ℕ} → UpTo q j x → (p : ℕ) × Range p (suc p) j x
  floored {x} {q} u = go x u.lies
    where
      go : (x : Float) → LiesBetween 0 q j x → (p : ℕ) × Range p (suc p) j x
      go nan h = absurd h
      go (inf s) h = absurd h
      go (fin s m e) h =
          let unit = 2 ^ j * down e in
          let p = m * up e / unit in
          let some : 0 < unit = mul-pos (pow_pos j) (down_pos e) in
          let under : p * 2 ^ j * down e ≤ m * up e = rw (mul_assoc p (2 ^ j) (down e)) (div-mul-le_self (m * up e) unit) in
          (p, record { from = under; up_to = record { lies = above s p h (omega (arith, lt-div-mul-add {a = m * up e} some)) } })
        where
          above :
              (s : Bool) (p : ℕ) → LiesBetween 0 q j (fin s m e) → m * up e ≤ p * (2 ^ j * down e) + 2 ^ j * down e →
              LiesBetween 0 (suc p) j (fin s m e)
          above true p h k = h
          above false p h k = le_trans k (le_of_eq (simp (suc-mul, add-mul, mul_assoc)))

  pub zero_at_most : {x : Float} {q : ℕ} → UpTo q j x → le (of_bits binary32 0) x ≡ true
  unfolding lt is_nan of_bits
  zero_at_most {x} {q} u = go x u.lies
    where
      -- either zero, or a size that is not below 0
      not-below : (s : Bool) (m : ℕ) (e : ℤ) → LiesBetween 0 q j (fin s m e) → below s (m * up e * 1) false (0 * down e) ≡ false
      not-below true m e h = le-ltb 0 (m * up e * 1 + 0 * down e) (omega (arith, unsigned true m e (pos 0) q j h refl, zero-mul (down e)))
      not-below false m e h = le-ltb (m * up e * 1) (0 * down e) (rw zero-mul zero-le)

      go : (x : Float) → LiesBetween 0 q j x → le (of_bits binary32 0) x ≡ true
      go nan h = absurd h
      go (inf s) h = absurd h
      go (fin s m e) h = not_lt_le (fin s m e) (of_bits binary32 0) refl refl (not-below s m e h)
