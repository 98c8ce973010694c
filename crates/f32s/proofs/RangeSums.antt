-- Sums and differences of floats in ranges: a sum with a number from 0 on stays at or above p * 2 ^ j, since rounding is monotone and keeps
-- a bound of few digits; a difference of two is at most the difference of the bounds. Assumes nothing.
use mathlib.Core.Bool.{Bool, true, false, not, cond, true≢false, false≢true}
use mathlib.Core.Path.{◌≡◌, refl, sym, subst, ◌∙◌}
use Prim.Native.Nat.{ℕ, ◌+◌, ◌-◌, ◌*◌, ◌^◌, ◌≤◌, ◌<◌, zero-le}
use native.Mathlib.Nat.{le_trans, zero-mul, add-mul, mul_assoc, mul_comm, mul_right_comm, mul-pos, mul-le-mul_right}
use native.Mathlib.Nat.{le_of_mul-le-mul_right, eq_of_mul-eq-mul_right}
use native.Mathlib.Omega.{arith}
use borrow.Author.Tests.{ltb-true, not-true}
use lib.Dec.{T, ltb}
use lib.Pow.{pow_pos}
use lib.Ieee.{Float, nan, inf, fin, Format, prec, emax, up, down, below, round, neg, sum, add, sub, lt, le, is_nan}
use lib.Ieee.Fits.{down_pos}
use lib.Ieee.Exact.{HasValue}
use lib.Ieee.Order.{round_mono}
use Rattle.f32s.proofs.Bounded.{bound_exact, round_between, sum_up_to}
use Rattle.f32s.proofs.Ordered.{le_is_not_lt}
use Rattle.f32s.proofs.Ranges.{SizeFrom, Range, unsigned, not_below_sizes, not_lt_sizes, size_from_zero, bounds_ordered}
use Rattle.f32s.specs.Bounded.{LiesBetween, UpTo}

-- ---- sums

T_true : (b : Bool) → T b → b ≡ true
T_true true h = refl
T_true false h = absurd h

-- z is no less than y, the number n
from_le :
    (y z : Float) (n c q j : ℕ) → 0 < c → HasValue y false (n * c) c → T (le y z) → LiesBetween 0 q j z → (p : ℕ) → n ≡ p * 2 ^ j →
    SizeFrom p j z
unfolding lt is_nan
from_le nan z n c q j C v h k p e = absurd v
from_le (inf t) z n c q j C v h k p e = absurd v
from_le (fin true b d) z n c q j C v h k p e = absurd (true≢false v.0)
from_le (fin false b d) nan n c q j C v h k p e = k
from_le (fin false b d) (inf s) n c q j C v h k p e = k
from_le (fin false b d) (fin s m e) n c q j C v h k p f =
    let value : b * up d ≡ n * down d = eq_of_mul-eq-mul_right c C (b * up d) (n * down d) (v.1 ∙ mul_right_comm n c (down d)) in
    let test : not (below s (m * up e * down d) false (b * up d * down e)) ≡ true =
    sym (le_is_not_lt (fin s m e) (fin false b d) refl refl) ∙ T_true (le (fin false b d) (fin s m e)) h in
    let order = not_below_sizes s false _ _ (unsigned s m e d q j k) (λ g. absurd (false≢true g)) (not-true _ test) in
    le_of_mul-le-mul_right (rw (← f, mul_right_comm n (down e) (down d), ← value) order) (down_pos d)

module _ (f : Format) (j : ℕ) (room : prec f + j ≤ emax f) where
  round_from :
      (n c p q : ℕ) → 0 < c → p ≤ 2 ^ prec f → p * 2 ^ j * c ≤ n → LiesBetween 0 q j (round f false n c) → SizeFrom p j (round f false n c)
  round_from n c p q C few h k =
      from_le (round f false (p * 2 ^ j * c) c) (round f false n c) (p * 2 ^ j) c q j C (bound_exact f j room p c few C)
      (round_mono f (p * 2 ^ j * c) c n c C C (mul-le-mul_right c h)) k p refl

  signs_from :
      (s t : Bool) (m n c p q : ℕ) → 0 < c → p ≤ 2 ^ prec f → p * 2 ^ j * c ≤ m → (s ≡ true → m ≡ 0) → (t ≡ true → n ≡ 0) →
      LiesBetween 0 q j (sum f s m t n c) → SizeFrom p j (sum f s m t n c)
  unfolding sum
  signs_from false false m n c p q C few h k l = round_from (m + n) c p q C few (omega arith)
  signs_from false true m n c p q C few h k l = go (ltb m n) refl
    where
      go :
          (b : Bool) → ltb m n ≡ b → LiesBetween 0 q j (cond b (round f true (n - m) c) (round f false (m - n) c)) →
          SizeFrom p j (cond b (round f true (n - m) c) (round f false (m - n) c))
      go true e = absurd (omega (arith, ltb-true m n e, l refl))
      go false e = round_from (m - n) c p q C few (omega (arith, l refl))
  signs_from true t m n c p q C few h k l =
      let nil : p * 2 ^ j * c ≤ 0 * 2 ^ j * c = omega (arith, k refl) in
      let least : p ≤ 0 = le_of_mul-le-mul_right (le_of_mul-le-mul_right nil C) (pow_pos j) in
      let none : 0 ≡ p = omega arith in
      λ g. subst (λ (i : ℕ). SizeFrom i j (sum f true m t n c)) none (size_from_zero j q (sum f true m t n c) g)

  pub sum_range : {x y : Float} {p q r : ℕ} → Range p q j x → UpTo r j y → q + r ≤ 2 ^ prec f → Range p (q + r) j (add f x y)
  unfolding add
  sum_range {x} {y} {p} {q} {r} v w few =
      let up_to = sum_up_to f j room v.up_to w few in
      let less = bounds_ordered j v in
      record { from = go (omega arith) x y v.from v.up_to.lies w.lies up_to.lies; up_to = up_to }
    where
      go :
          p ≤ 2 ^ prec f → (x y : Float) → SizeFrom p j x → LiesBetween 0 q j x → LiesBetween 0 r j y →
          LiesBetween 0 (q + r) j (add f x y) → SizeFrom p j (add f x y)
      go few nan y l h k g = l
      go few (inf s) y l h k g = absurd l
      go few (fin s m e) nan l h k g = k
      go few (fin s m e) (inf t) l h k g = k
      go few (fin s m e) (fin t n d) l h k g =
          signs_from s t (m * up e * down d) (n * up d * down e) (down e * down d) p (q + r) (mul-pos (down_pos e) (down_pos d)) few
          (rw (← mul_assoc) (mul-le-mul_right (down d) l)) (unsigned s m e d q j h) (unsigned t n d e r j k) g

  -- ---- differences

  signs_difference :
      (s t : Bool) (m n c p r : ℕ) → 0 < c → r ≤ 2 ^ prec f → n ≤ m → (s ≡ true → m ≡ 0) → (t ≡ true → n ≡ 0) → m ≤ (p + r) * 2 ^ j * c →
      p * 2 ^ j * c ≤ n → LiesBetween 0 r j (sum f s m (not t) n c)
  unfolding sum
  signs_difference s t m n c p r C few o u v h k = go s t u v
    where
      spread : (p + r) * 2 ^ j * c ≡ p * 2 ^ j * c + r * 2 ^ j * c
      spread = rw (add-mul, add-mul)

      -- +0 or -0
      nil : (s : Bool) (k : ℕ) → k ≡ 0 → LiesBetween 0 r j (round f s k c)
      nil s k e = round_between f j room s k c 0 r C (few_side s) (omega arith)
        where
          few_side : (s : Bool) → cond s 0 r ≤ 2 ^ prec f
          few_side true = zero-le
          few_side false = few

      plus : (k : ℕ) → k ≤ r * 2 ^ j * c → LiesBetween 0 r j (round f false k c)
      plus k h = round_between f j room false k c 0 r C few h

      unlike_signs : (b : Bool) → LiesBetween 0 r j (cond b (round f true (n - m) c) (round f false (m - n) c))
      unlike_signs true = nil true (n - m) (omega arith)
      unlike_signs false = plus (m - n) (omega (arith, spread))

      both_nil : (b a : Bool) → m ≡ 0 → LiesBetween 0 r j (cond b (round f false (n - m) c) (round f a (m - n) c))
      both_nil true a e = nil false (n - m) (omega arith)
      both_nil false a e = nil a (m - n) (omega arith)

      go : (s t : Bool) → (s ≡ true → m ≡ 0) → (t ≡ true → n ≡ 0) → LiesBetween 0 r j (sum f s m (not t) n c)
      go false false u v = unlike_signs (ltb m n)
      go false true u v = plus (m + n) (omega (arith, spread, v refl))
      go true false u v = nil true (m + n) (omega (arith, u refl))
      go true true u v = both_nil (ltb m n) (ltb n m) (u refl)

  -- of two numbers from p on up to p + r, the lesser from the other
  pub difference_range :
      {x y : Float} {p q r : ℕ} → UpTo (p + r) j x → Range p q j y → lt x y ≡ false → r ≤ 2 ^ prec f → UpTo r j (sub f x y)
  unfolding sub neg lt add
  difference_range {x} {y} {p} {q} {r} v w e few = record { lies = go x y v.lies w.from w.up_to.lies e }
    where
      size : (s : Bool) (m c : ℕ) → m ≤ cond s 0 (p + r) * 2 ^ j * c → m ≤ (p + r) * 2 ^ j * c
      size true m c h = le_trans h (rw (zero-mul (2 ^ j), zero-mul c) zero-le)
      size false m c h = h

      go : (x y : Float) → LiesBetween 0 (p + r) j x → SizeFrom p j y → LiesBetween 0 q j y → lt x y ≡ false → LiesBetween 0 r j (sub f x y)
      go nan y h l k e = h
      go (inf s) y h l k e = absurd h
      go (fin s m e) nan h l k g = l
      go (fin s m e) (inf t) h l k g = l
      go (fin s m e) (fin t n d) h l k g =
          signs_difference s t (m * up e * down d) (n * up d * down e) (down e * down d) p r (mul-pos (down_pos e) (down_pos d)) few
          (not_lt_sizes j (p + r) q s t m n e d h k g) (unsigned s m e d (p + r) j h) (unsigned t n d e q j k)
          (rw (← mul_assoc) (mul-le-mul_right (down d) (size s (m * up e) (down e) h)))
          (rw (mul_comm (down e), ← mul_assoc) (mul-le-mul_right (down e) l))
