-- Floats between two bounds q * 2 ^ j: sums, differences and squares stay between the sums and squares of the bounds, since rounding is
-- monotone and keeps a bound of few digits. At the end, what is within ±1,024, and what is below the mark f32::MAX / 2. Assumes nothing.
use mathlib.Core.Bool.{Bool, true, false, not, cond, ◌&&◌, true≢false, false≢true}
use mathlib.Core.Logic.{◌⊎◌, inl, inr}
use mathlib.Core.Path.{◌≡◌, refl, sym, ap, subst, ◌∙◌}
use Prim.Native.Nat.{ℕ, zero, suc, ◌+◌, ◌-◌, ◌*◌, ◌^◌, ◌≤◌, ◌<◌, zero-le}
use native.Mathlib.Nat.{le_trans, lt_of_le_of_lt, lt_of_lt_of_le, eq-or-lt_of_le, one-mul, mul-one, add-mul, mul_assoc, mul_comm}
use native.Mathlib.Nat.{mul_left_comm, mul_right_comm, mul-pos, mul-le-mul, mul-le-mul_right, mul-lt-mul_of_pos_right}
use native.Mathlib.Nat.{le_of_mul-le-mul_right, eq_of_mul-eq-mul_right}
use native.Mathlib.Omega.{arith}
use borrow.Author.Tests.{ltb-false, lt-ltb, not-true}
use lib.Dec.{T, ltb, nltb→le, lit≤}
use lib.IntN.{ℤ}
use lib.Pow.{pow-add, pow-lt, pow_mono, shl_lt}
use lib.Ieee.{Float, nan, inf, fin, Format, binary32, prec, emax, low, up, down, odd, units, round, neg, sum, add, sub, mul, lt, le, is_nan}
use lib.Ieee.{of_bits}
use lib.Ieee.Fits.{down_pos, two, two-le_pos, round_is}
use lib.Ieee.Exact.{HasValue, round_exact}
use lib.Ieee.Order.{round_mono}
use Rattle.f32s.proofs.Ordered.{le_is_not_lt}
use Rattle.f32s.specs.Single.{farthest, within}
use Rattle.f32s.specs.Bounded.{LiesBetween, Between, UpTo}

-- ---- one rounding

-- y is the number n, and what is at most y has at most that size
size_at_most : (m : ℕ) (e : ℤ) (y : Float) (n c : ℕ) → 0 < c → HasValue y false (n * c) c → T (le (fin false m e) y) → m * up e ≤ n * down e
unfolding lt is_nan
size_at_most m e nan n c C v h = absurd v
size_at_most m e (inf t) n c C v h = absurd v
size_at_most m e (fin true k d) n c C v h = absurd (true≢false v.0)
size_at_most m e (fin false k d) n c C v h =
    let order : m * up e * down d ≤ k * up d * down e =
    nltb→le (k * up d * down e) (m * up e * down d) (subst T (le_is_not_lt (fin false k d) (fin false m e) refl refl) h) in
    let value : k * up d ≡ n * down d = eq_of_mul-eq-mul_right c C (k * up d) (n * down d) (v.1 ∙ mul_right_comm n c (down d)) in
    le_of_mul-le-mul_right (rw (mul_right_comm n (down e) (down d), ← value) order) (down_pos d)

infinite_above : (y : Float) (n c : ℕ) → HasValue y false n c → T (le (inf false) y) → ⊥
unfolding le
infinite_above nan n c v h = v
infinite_above (inf t) n c v h = v
infinite_above (fin t k d) n c v h = h

module _ (f : Format) (j : ℕ) (room : prec f + j ≤ emax f) where
  -- q * 2 ^ j is a value of the format
  pub bound_exact : (q c : ℕ) → q ≤ 2 ^ prec f → 0 < c → HasValue (round f false (q * 2 ^ j * c) c) false (q * 2 ^ j * c) c
  bound_exact q c few C = go (eq-or-lt_of_le few)
    where
      regroup : (q i : ℕ) → q * 2 ^ j * c * 2 ^ i ≡ q * 2 ^ (j + i) * c
      regroup q i = simp (pow-add, mul_assoc, mul_left_comm, mul_comm)

      go : (q ≡ 2 ^ prec f) ⊎ (q < 2 ^ prec f) → HasValue (round f false (q * 2 ^ j * c) c) false (q * 2 ^ j * c) c
      go (inr l) =
          round_exact f false (q * 2 ^ j * c) c q (j + low f) C l (lt_of_lt_of_le (shl_lt (prec f) (j + low f) l) (pow_mono (omega arith)))
          (regroup q (low f))
      go (inl p) =
          let i = prec f + (j + low f) in
          let power : 1 * 2 ^ i ≡ q * 2 ^ (j + low f) =
          one-mul (2 ^ i) ∙ pow-add 2 (prec f) (j + low f) ∙ ap (λ (n : ℕ). n * 2 ^ (j + low f)) (sym p) in
          round_exact f false (q * 2 ^ j * c) c 1 i C (pow-lt (two-le_pos (prec f) (two f))) (rw one-mul (pow-lt (omega arith)))
          (regroup q (low f) ∙ ap (λ (n : ℕ). n * c) (sym power))

  units_between :
      (s : Bool) (q k a b c : ℕ) (y : Float) → 0 < c → HasValue y false (cond s a b * 2 ^ j * c) c → T (le (units f false q k) y) →
      LiesBetween a b j (units f s q k)
  unfolding units odd
  units_between s q k a b c y C v = go (ltb (q * 2 ^ k) (2 ^ (low f + suc (emax f)))) q
    where
      go :
          (t : Bool) (q : ℕ) → T (le (cond t (odd (suc (prec f)) false q k (low f)) (inf false)) y) →
          LiesBetween a b j (cond t (odd (suc (prec f)) s q k (low f)) (inf s))
      go true zero h = size_at_most _ _ y (cond s a b * 2 ^ j) c C v h
      go true (suc q) h = size_at_most _ _ y (cond s a b * 2 ^ j) c C v h
      go false q h = infinite_above y (cond s a b * 2 ^ j * c) c v h

  pub round_between :
      (s : Bool) (n c a b : ℕ) → 0 < c → cond s a b ≤ 2 ^ prec f → n ≤ cond s a b * 2 ^ j * c → LiesBetween a b j (round f s n c)
  round_between s n c a b C few h =
      let most = cond s a b * 2 ^ j * c in
      rw round_is
      (units_between s _ _ a b c (round f false most c) C (bound_exact (cond s a b) c few C)
      (rw (round_is f false n c) at (round_mono f n c most c C C (mul-le-mul_right c h))))

  -- ---- sums and differences

  -- of unlike signs the larger one's is kept, with no more than its size
  signs_between :
      (s t : Bool) (m n c a b a' b' : ℕ) → 0 < c → a + a' ≤ 2 ^ prec f → b + b' ≤ 2 ^ prec f → m ≤ cond s a b * 2 ^ j * c →
      n ≤ cond t a' b' * 2 ^ j * c → LiesBetween (a + a') (b + b') j (sum f s m t n c)
  unfolding sum
  signs_between s t m n c a b a' b' C few few' h k = go s t h k
    where
      spread : (p q : ℕ) → (p + q) * 2 ^ j * c ≡ p * 2 ^ j * c + q * 2 ^ j * c
      spread p q = rw (add-mul, add-mul)

      either : (s : Bool) (n : ℕ) → n ≤ cond s (a + a') (b + b') * 2 ^ j * c → LiesBetween (a + a') (b + b') j (round f s n c)
      either true n h = round_between true n c (a + a') (b + b') C few h
      either false n h = round_between false n c (a + a') (b + b') C few' h

      plus_minus :
          (u : Bool) → m ≤ b * 2 ^ j * c → n ≤ a' * 2 ^ j * c →
          LiesBetween (a + a') (b + b') j (cond u (round f true (n - m) c) (round f false (m - n) c))
      plus_minus true h k = either true (n - m) (omega (arith, spread a a'))
      plus_minus false h k = either false (m - n) (omega (arith, spread b b'))

      -- equal sizes: the sum is +0
      minus_plus :
          (u v : Bool) → ltb n m ≡ v → m ≤ a * 2 ^ j * c → n ≤ b' * 2 ^ j * c →
          LiesBetween (a + a') (b + b') j (cond u (round f false (n - m) c) (round f v (m - n) c))
      minus_plus true v e h k = either false (n - m) (omega (arith, spread b b'))
      minus_plus false true e h k = either true (m - n) (omega (arith, spread a a'))
      minus_plus false false e h k = either false (m - n) (omega (arith, ltb-false))

      go : (s t : Bool) → m ≤ cond s a b * 2 ^ j * c → n ≤ cond t a' b' * 2 ^ j * c → LiesBetween (a + a') (b + b') j (sum f s m t n c)
      go false false h k = either false (m + n) (omega (arith, spread b b'))
      go true true h k = either true (m + n) (omega (arith, spread a a'))
      go false true h k = plus_minus (ltb m n) h k
      go true false h k = minus_plus (ltb m n) (ltb n m) refl h k

  pub sum_between :
      {x y : Float} {a b a' b' : ℕ} → Between a b j x → Between a' b' j y → a + a' ≤ 2 ^ prec f → b + b' ≤ 2 ^ prec f →
      Between (a + a') (b + b') j (add f x y)
  unfolding add
  sum_between {x} {y} {a} {b} {a'} {b'} v w few few' = record { lies = go x y v.lies w.lies }
    where
      go : (x y : Float) → LiesBetween a b j x → LiesBetween a' b' j y → LiesBetween (a + a') (b + b') j (add f x y)
      go nan y h k = h
      go (inf s) y h k = absurd h
      go (fin s m e) nan h k = k
      go (fin s m e) (inf t) h k = k
      go (fin s m e) (fin t n d) h k =
          signs_between s t (m * up e * down d) (n * up d * down e) (down e * down d) a b a' b' (mul-pos (down_pos e) (down_pos d)) few few'
          (rw (← mul_assoc) (mul-le-mul_right (down d) h)) (rw (mul_comm (down e), ← mul_assoc) (mul-le-mul_right (down e) k))

  pub difference_between :
      {x y : Float} {a b a' b' : ℕ} → Between a b j x → Between a' b' j y → a + b' ≤ 2 ^ prec f → b + a' ≤ 2 ^ prec f →
      Between (a + b') (b + a') j (sub f x y)
  unfolding sub neg
  difference_between {x} {y} {a} {b} {a'} {b'} v w few few' = sum_between v (record { lies = go y w.lies }) few few'
    where
      go : (y : Float) → LiesBetween a' b' j y → LiesBetween b' a' j (neg y)
      go nan h = h
      go (inf s) h = h
      go (fin true n d) h = h
      go (fin false n d) h = h

  pub sum_up_to : {x y : Float} {p q : ℕ} → UpTo p j x → UpTo q j y → p + q ≤ 2 ^ prec f → UpTo (p + q) j (add f x y)
  sum_up_to v w few = sum_between v w zero-le few

-- ---- squares

pub square_up_to :
    (f : Format) (j : ℕ) → prec f + (j + j) ≤ emax f → {x : Float} {q : ℕ} → Between q q j x → q * q ≤ 2 ^ prec f →
    UpTo (q * q) (j + j) (mul f x x)
unfolding mul
square_up_to f j room {x} {q} v few = record { lies = go x v.lies }
  where
    squared : (n d : ℕ) → 0 < d → n ≤ q * 2 ^ j * d → LiesBetween 0 (q * q) (j + j) (round f false (n * n) (d * d))
    squared n d D h =
        let size : q * q * 2 ^ (j + j) * (d * d) ≡ q * 2 ^ j * d * (q * 2 ^ j * d) = simp (pow-add, mul_assoc, mul_left_comm, mul_comm) in
        round_between f (j + j) room false (n * n) (d * d) 0 (q * q) (mul-pos D D) few (rw size (mul-le-mul h h))

    go : (x : Float) → LiesBetween q q j x → LiesBetween 0 (q * q) (j + j) (mul f x x)
    go nan h = h
    go (inf s) h = absurd h
    go (fin true m e) h = squared (m * up e) (down e) (down_pos e) h
    go (fin false m e) h = squared (m * up e) (down e) (down_pos e) h

-- ---- other bounds

pub wider_between : {x : Float} {a b j a' b' k : ℕ} → Between a b j x → a * 2 ^ j ≤ a' * 2 ^ k → b * 2 ^ j ≤ b' * 2 ^ k → Between a' b' k x
wider_between {x} {a} {b} {j} {a'} {b'} {k} v h h' = record { lies = go x v.lies }
  where
    go : (x : Float) → LiesBetween a b j x → LiesBetween a' b' k x
    go nan l = l
    go (inf s) l = l
    go (fin true m e) l = le_trans l (mul-le-mul_right (down e) h)
    go (fin false m e) l = le_trans l (mul-le-mul_right (down e) h')

both_true : (p q : Bool) → (p && q) ≡ true → (p ≡ true) × (q ≡ true)
both_true true q h = (refl, h)
both_true false q h = (cc, cc)

pub within_between : (x : Float) → within x ≡ true → Between 1024 1024 0 x
unfolding le is_nan neg of_bits
within_between x h = record { lies = go x h }
  where
    not_above : (n d : ℕ) → not (ltb (1024 * d) (n * 1)) ≡ true → n ≤ 1024 * d
    not_above n d h = omega (arith, ltb-false (1024 * d) (n * 1) (not-true (ltb (1024 * d) (n * 1)) h))

    go : (x : Float) → within x ≡ true → LiesBetween 1024 1024 0 x
    go nan h = absurd (false≢true h)
    go (inf true) h = absurd (false≢true h)
    go (inf false) h = absurd (false≢true h)
    go (fin true m e) h =
        not_above (m * up e) (down e)
        (sym (le_is_not_lt (fin true m e) (neg farthest) refl refl)
        ∙ (both_true (le (neg farthest) (fin true m e)) (le (fin true m e) farthest) h).0)
    go (fin false m e) h =
        not_above (m * up e) (down e)
        (sym (le_is_not_lt farthest (fin false m e) refl refl)
        ∙ (both_true (le (neg farthest) (fin false m e)) (le (fin false m e) farthest) h).1)

-- one square of a cost in symbols, where e is from -1 up to 1
pub difference_square_up_to :
    {e : Float} (x : Float) → within x ≡ true → Between 1 1 0 e → UpTo (1025 * 1025) 0 (mul binary32 (sub binary32 x e) (sub binary32 x e))
difference_square_up_to x h near =
    square_up_to binary32 0 (lit≤ tt) (difference_between binary32 0 (lit≤ tt) (within_between x h) near (lit≤ tt) (lit≤ tt)) (lit≤ tt)

-- ---- comparisons: y is the number n, and the bound of x is below it

pub lt_value : {x : Float} {a b j : ℕ} → Between a b j x → (y : Float) (n : ℕ) → HasValue y false n 1 → b * 2 ^ j < n → lt x y ≡ true
unfolding lt
lt_value {x} {a} {b} {j} v y n is far = go x y v.lies is
  where
    scaled : (k : ℕ) (e d : ℤ) → k * up d * 1 ≡ n * down d → k * up d * down e ≡ n * down e * down d
    scaled k e d is = rw (← mul-one (k * up d), is) (mul_right_comm n (down d) (down e))

    go : (x y : Float) → LiesBetween a b j x → HasValue y false n 1 → lt x y ≡ true
    go nan y l is = absurd l
    go (inf s) y l is = absurd l
    go (fin s m e) nan l is = absurd is
    go (fin s m e) (inf t) l is = absurd is
    go (fin s m e) (fin true k d) l is = absurd (true≢false is.0)
    go (fin true m e) (fin false k d) l is =
        lt-ltb 0 (m * up e * down d + k * up d * down e)
        (omega (arith, scaled k e d is.1, mul-pos (mul-pos (lt_of_le_of_lt zero-le far) (down_pos e)) (down_pos d)))
    go (fin false m e) (fin false k d) l is =
        lt-ltb (m * up e * down d) (k * up d * down e)
        (rw (scaled k e d is.1) (mul-lt-mul_of_pos_right (lt_of_le_of_lt l (mul-lt-mul_of_pos_right far (down_pos e))) (down_pos d)))

-- the mark f32::MAX / 2
pub lt_mark : {x : Float} {a b j : ℕ} → Between a b j x → b * 2 ^ j < (2 ^ 24 - 1) * 2 ^ 103 → lt x (of_bits binary32 0x7eff_ffff) ≡ true
lt_mark v far = lt_value v (of_bits binary32 0x7eff_ffff) ((2 ^ 24 - 1) * 2 ^ 103) (unfold of_bits in (refl, refl)) far
