-- Floats that are whole numbers: their sums and differences are exact up to 2 ^ prec (2 ^ 24 for f32), and they compare as integers do.
-- The float of an integer is never -0, nor is its sum with a whole float. At the end, f32::MIN / 2, the mark of what is not reached, lies
-- below every one up to 2 ^ 24. Assumes nothing.
use mathlib.Core.Bool.{Bool, true, false, not, true≢false}
use mathlib.Core.Path.{◌≡◌, refl, sym, ap, ap₂, ◌∙◌}
use Prim.Native.Nat.{ℕ, zero, suc, ◌+◌, ◌-◌, ◌*◌, ◌^◌, ◌≤◌, ◌<◌}
use native.Mathlib.Nat.{zero-add, zero-lt-suc, lt_of_le_of_lt, add-mul, zero-mul, mul-one, mul_assoc, mul_comm, mul-sub, mul-pos}
use native.Mathlib.Nat.{eq_of_mul-eq-mul_right}
use native.Mathlib.Omega.{arith}
use borrow.Author.Tests.{ltb-true, ltb-false, lt-ltb}
use lib.Dec.{lit<, ltb, leb-suc-zero, leb-suc-suc}
use lib.IntN.{ℤ, pos, negsuc, neg_ℤ, nat_abs, ◌+ℤ◌, ◌-ℤ◌, ◌*ℤ◌, +ℤ_comm, +ℤ-neg_ℤ_cancel, neg_ℤ-+ℤ, neg_ℤ-neg_ℤ, pos-ne-negsuc}
use lib.Signed.{lt_z}
use lib.Ieee.{Float, nan, inf, fin, Format, binary32, prec, up, down, round, sum, neg, add, sub, below, lt, le, is_nan, of_int, of_bits}
use lib.Ieee.Fits.{down_pos}
use lib.Ieee.Exact.{HasValue}
use lib.Ieee.Back as Back
use lib.Ieee.Scale.{round_same}
use Rattle.f32s.proofs.Ordered.{ltb_scale, below_scale, le_is_not_lt}
use Rattle.f32s.specs.Single.{finite}
use Rattle.f32s.specs.Whole.{with_sign, IsWhole, Whole, float_of}

-- ---- the size and the sign of an integer that is ±n / c

abs-sign : (s : Bool) (n : ℕ) → nat_abs (with_sign s n) ≡ n
abs-sign false n = refl
abs-sign true zero = refl
abs-sign true (suc n) = refl

abs-mul : (z : ℤ) (c : ℕ) → nat_abs (z *ℤ pos c) ≡ nat_abs z * c
abs-mul (pos a) c = refl
abs-mul (negsuc a) c = abs-sign true (suc a * c)

size_of : (s : Bool) (n : ℕ) (z : ℤ) (c : ℕ) → with_sign s n ≡ z *ℤ pos c → n ≡ nat_abs z * c
size_of s n z c h = sym (abs-sign s n) ∙ ap nat_abs h ∙ abs-mul z c

both_zero : (m n : ℕ) → neg_ℤ (pos m) ≡ pos n → m + n ≡ 0
both_zero zero n h = zero-add n ∙ ap nat_abs (sym h)
both_zero (suc m) n h = absurd (pos-ne-negsuc n m (sym h))

sign_of : (s : Bool) (n : ℕ) (z : ℤ) (c : ℕ) → 0 < c → with_sign s n ≡ z *ℤ pos c → with_sign s (nat_abs z) ≡ z
sign_of false n (pos a) c C h = refl
sign_of true n (pos zero) c C h = refl
sign_of true n (pos (suc a)) c C h = absurd (omega (arith, both_zero n (suc a * c) h, mul-pos (zero-lt-suc a) C))
sign_of false n (negsuc a) c C h = absurd (omega (arith, both_zero (suc a * c) n (sym h), mul-pos (zero-lt-suc a) C))
sign_of true n (negsuc a) c C h = refl

sign_mul : (s : Bool) (n c : ℕ) → with_sign s (n * c) ≡ with_sign s n *ℤ pos c
sign_mul false n c = refl
sign_mul true zero c = rw zero-mul
sign_mul true (suc n) c = refl

-- ---- a whole float taken apart

record Parts (x : Float) (z : ℤ) : Type 0 where
  sign : Bool
  digits : ℕ
  exponent : ℤ
  is : x ≡ fin sign digits exponent
  size : digits * up exponent ≡ nat_abs z * down exponent
  signed : with_sign sign (nat_abs z) ≡ z

parts : {x : Float} {z : ℤ} → Whole x z → Parts x z
parts {x} {z} w = go x w.value
  where
    go : (x : Float) → IsWhole x z → Parts x z
    go nan h = absurd h
    go (inf s) h = absurd h
    go (fin s m e) h = record {
      sign = s;
      digits = m;
      exponent = e;
      is = refl;
      size = size_of s (m * up e) z (down e) h;
      signed = sign_of s (m * up e) z (down e) (down_pos e) h;
    }

-- ---- a common denominator c cancels, in a sum and in a comparison

module _ (c : ℕ) (C : 0 < c) where
  ltb_common : (a b : ℕ) → ltb (a * c) (b * c) ≡ ltb a b
  ltb_common a b = ltb_scale a b c C

  sub_scale : (a b : ℕ) → a * c - b * c ≡ (a - b) * c
  sub_scale a b = rw (mul_comm a c, mul_comm b c, ← mul-sub, mul_comm c (a - b))

  round_scale : (f : Format) (s : Bool) (n : ℕ) → round f s (n * c) c ≡ round f s n 1
  round_scale f s n = round_same f s (n * c) c n 1 C (zero-lt-suc 0) (mul-one (n * c))

  sum_scale : (f : Format) (s t : Bool) (a b : ℕ) → sum f s (a * c) t (b * c) c ≡ sum f s a t b 1
  unfolding sum
  sum_scale f s t a b = simp (← add-mul, sub_scale, ltb_common, round_scale)

module _ {x y : Float} {p q : ℤ} (a : Parts x p) (b : Parts y q) where
  abbrev common : ℕ
  common = down a.exponent * down b.exponent

  common_pos : 0 < common
  common_pos = mul-pos (down_pos a.exponent) (down_pos b.exponent)

  first : a.digits * up a.exponent * down b.exponent ≡ nat_abs p * common
  first = rw (a.size, mul_assoc)

  second : b.digits * up b.exponent * down a.exponent ≡ nat_abs q * common
  second = rw (b.size, mul_assoc, mul_comm (down b.exponent) (down a.exponent))

  add_is : (f : Format) → add f x y ≡ sum f a.sign (nat_abs p) b.sign (nat_abs q) 1
  unfolding add
  add_is f = rw (a.is, b.is, first, second) (sum_scale common common_pos f a.sign b.sign (nat_abs p) (nat_abs q))

  lt_is : lt x y ≡ below a.sign (nat_abs p) b.sign (nat_abs q)
  unfolding lt
  lt_is = rw (a.is, b.is, first, second) (below_scale a.sign b.sign (nat_abs p) (nat_abs q) common common_pos)

-- ---- ±a + ±b: of unlike signs, the larger one's is kept

less : (a b : ℕ) → b ≤ a → pos a -ℤ pos b ≡ pos (a - b)
less a b h =
    let back : a ≡ a - b + b = omega arith in
    ap (λ (n : ℕ). pos n -ℤ pos b) back ∙ +ℤ-neg_ℤ_cancel (pos (a - b)) (pos b)

first_larger : (s : Bool) (a b : ℕ) → b ≤ a → with_sign s a +ℤ with_sign (not s) b ≡ with_sign s (a - b)
first_larger false a b h = less a b h
first_larger true a b h =
    sym (neg_ℤ-+ℤ (pos a) (neg_ℤ (pos b)) ∙ ap (λ (z : ℤ). neg_ℤ (pos a) +ℤ z) (neg_ℤ-neg_ℤ (pos b))) ∙ ap neg_ℤ (less a b h)

second_larger : (s : Bool) (a b : ℕ) → a ≤ b → with_sign s a +ℤ with_sign (not s) b ≡ with_sign (not s) (b - a)
second_larger false a b h = +ℤ_comm (pos a) (neg_ℤ (pos b)) ∙ first_larger true b a h
second_larger true a b h = +ℤ_comm (neg_ℤ (pos a)) (pos b) ∙ first_larger false b a h

-- -0, as a sign and a size
abbrev MinusZero : Bool → ℕ → Type 0
MinusZero s n = (s ≡ true) × (n ≡ 0)

no_minus : {P : Type 0} → false ≡ true → P
no_minus e = absurd (true≢false (sym e))

-- ±a + ±b is a rounded integer, and -0 only where the first of the two is
record Summed (f : Format) (s t : Bool) (a b : ℕ) : Type 0 where
  sign : Bool
  size : ℕ
  is : sum f s a t b 1 ≡ round f sign size 1
  signed : with_sign sign size ≡ with_sign s a +ℤ with_sign t b
  from_minus_zero : MinusZero sign size → MinusZero s a

summed : (f : Format) (s t : Bool) (a b : ℕ) → Summed f s t a b
unfolding sum
summed f false false a b = record { sign = false; size = a + b; is = refl; signed = refl; from_minus_zero = λ z. no_minus z.0 }
summed f true true a b =
    record { sign = true; size = a + b; is = refl; signed = neg_ℤ-+ℤ (pos a) (pos b); from_minus_zero = λ z. (refl, omega (arith, z.1)) }
summed f false true a b = go (ltb a b) refl
  where
    go : (u : Bool) → ltb a b ≡ u → Summed f false true a b
    go true k =
        record {
          sign = true;
          size = b - a;
          is = rw k;
          signed = sym (second_larger false a b (omega (arith, ltb-true)));
          from_minus_zero = λ z. absurd (omega (arith, z.1, ltb-true));
        }
    go false k =
        record {
          sign = false;
          size = a - b;
          is = rw k;
          signed = sym (first_larger false a b (omega (arith, ltb-false)));
          from_minus_zero = λ z. no_minus z.0;
        }
summed f true false a b = go (ltb a b) (ltb b a) refl refl
  where
    go : (u v : Bool) → ltb a b ≡ u → ltb b a ≡ v → Summed f true false a b
    go true v k l =
        record {
          sign = false;
          size = b - a;
          is = rw k;
          signed = sym (second_larger true a b (omega (arith, ltb-true)));
          from_minus_zero = λ z. no_minus z.0;
        }
    go false true k l =
        record {
          sign = true;
          size = a - b;
          is = rw (k, l);
          signed = sym (first_larger true a b (omega (arith, ltb-false)));
          from_minus_zero = λ z. absurd (omega (arith, z.1, ltb-true b a l));
        }
    -- equal sizes: the sum is +0
    go false false k l =
        let none : a - b ≡ b - a = omega (arith, ltb-false) in
        record {
          sign = false;
          size = a - b;
          is = rw (k, l);
          signed = rw none (sym (second_larger true a b (omega (arith, ltb-false))));
          from_minus_zero = λ z. no_minus z.0;
        }

-- ---- what is rounded to is exact

value_parts : (x : Float) (s : Bool) (n : ℕ) → HasValue x s n 1 → (a : Parts x (with_sign s n)) × (a.sign ≡ s)
value_parts nan s n h = absurd h
value_parts (inf t) s n h = absurd h
value_parts (fin t m e) s n h = (
  record {
    sign = t;
    digits = m;
    exponent = e;
    is = refl;
    size = rw (abs-sign s n) (sym (mul-one (m * up e)) ∙ h.1);
    signed = rw (h.0, abs-sign s n);
  },
  h.0,
)

round_parts : (f : Format) (s : Bool) (n : ℕ) → n ≤ 2 ^ prec f → (a : Parts (round f s n 1) (with_sign s n)) × (a.sign ≡ s)
round_parts f s n small = value_parts (round f s n 1) s n (Back.round_whole f s n small)

-- a float by its parts is whole
whole_parts : {x : Float} {z : ℤ} → Parts x z → Whole x z
whole_parts {x} {z} a =
    let c = down a.exponent in
    let value = ap (with_sign a.sign) a.size ∙ sign_mul a.sign (nat_abs z) c ∙ ap (λ (y : ℤ). y *ℤ pos c) a.signed in
    record { value = rw a.is value }

round_exact : (f : Format) (z : ℤ) → nat_abs z ≤ 2 ^ prec f → (s : Bool) (n : ℕ) → with_sign s n ≡ z → Whole (round f s n 1) z
round_exact f z small s n h =
    let size : n ≡ nat_abs z = sym (abs-sign s n) ∙ ap nat_abs h in
    rw (← h) (whole_parts (round_parts f s n (rw size small)).0)

-- ---- zero, integers, sums and differences

pub whole_zero : Whole (of_bits binary32 0) (pos 0)
unfolding of_bits
whole_zero = record { value = refl }

pub whole_neg : {x : Float} {p : ℤ} → Whole x p → Whole (neg x) (neg_ℤ p)
unfolding neg
whole_neg {x} {p} w = record { value = go x p w.value }
  where
    sign_not : (s : Bool) (n : ℕ) → with_sign (not s) n ≡ neg_ℤ (with_sign s n)
    sign_not false n = refl
    sign_not true n = sym (neg_ℤ-neg_ℤ (pos n))

    neg-mul : (p : ℤ) (c : ℕ) → neg_ℤ (p *ℤ pos c) ≡ neg_ℤ p *ℤ pos c
    neg-mul (pos a) c = sign_mul true a c
    neg-mul (negsuc a) c = neg_ℤ-neg_ℤ (pos (suc a * c))

    go : (x : Float) (p : ℤ) → IsWhole x p → IsWhole (neg x) (neg_ℤ p)
    go nan p h = h
    go (inf s) p h = h
    go (fin s m e) p h = sign_not s (m * up e) ∙ ap neg_ℤ h ∙ neg-mul p (down e)

pub whole_of_int : (f : Format) (z : ℤ) → nat_abs z ≤ 2 ^ prec f → Whole (of_int f z) z
unfolding of_int
whole_of_int f (pos n) small = round_exact f (pos n) small false n refl
whole_of_int f (negsuc n) small = round_exact f (negsuc n) small true (suc n) refl

pub whole_add : (f : Format) {x y : Float} {p q : ℤ} → Whole x p → Whole y q → nat_abs (p +ℤ q) ≤ 2 ^ prec f → Whole (add f x y) (p +ℤ q)
whole_add f {x} {y} {p} {q} v w small =
    let a = parts v in
    let b = parts w in
    let r = summed f a.sign b.sign (nat_abs p) (nat_abs q) in
    rw (add_is a b f, r.is) (round_exact f (p +ℤ q) small r.sign r.size (r.signed ∙ ap₂ ◌+ℤ◌ a.signed b.signed))

pub whole_sub : (f : Format) {x y : Float} {p q : ℤ} → Whole x p → Whole y q → nat_abs (p -ℤ q) ≤ 2 ^ prec f → Whole (sub f x y) (p -ℤ q)
unfolding sub
whole_sub f v w small = whole_add f v (whole_neg w) small

-- ---- the float of an integer: it is never -0, nor is its sum with a whole float

pub float_of-zero : float_of (pos 0) ≡ of_bits binary32 0
unfolding of_int of_bits
float_of-zero = refl

of_int_parts : (f : Format) (p : ℤ) → nat_abs p ≤ 2 ^ prec f → (a : Parts (of_int f p) p) × (MinusZero a.sign (nat_abs p) → ⊥)
unfolding of_int
of_int_parts f (pos n) small = let (a, plus) = round_parts f false n small in (a, λ z. no_minus (sym plus ∙ z.0))
of_int_parts f (negsuc n) small = ((round_parts f true (suc n) small).0, λ z. omega (arith, z.1))

rounded_of_int : (f : Format) (s : Bool) (n : ℕ) → (MinusZero s n → ⊥) → round f s n 1 ≡ of_int f (with_sign s n)
unfolding of_int
rounded_of_int f false n other = refl
rounded_of_int f true zero other = absurd (other (refl, refl))
rounded_of_int f true (suc n) other = refl

pub of_int_add : (f : Format) (p : ℤ) {q : ℤ} {y : Float} → nat_abs p ≤ 2 ^ prec f → Whole y q → add f (of_int f p) y ≡ of_int f (p +ℤ q)
of_int_add f p {q} {y} small w =
    let (a, other) = of_int_parts f p small in
    let b = parts w in
    let r = summed f a.sign b.sign (nat_abs p) (nat_abs q) in
    add_is a b f ∙ r.is ∙ rounded_of_int f r.sign r.size (λ z. other (r.from_minus_zero z))
    ∙ ap (of_int f) (r.signed ∙ ap₂ ◌+ℤ◌ a.signed b.signed)

-- ---- the order

below_is : (s t : Bool) (a b : ℕ) → below s a t b ≡ lt_z (with_sign s a) (with_sign t b)
below_is false false a b = refl
below_is false true a zero = sym (leb-suc-zero a)
below_is false true a (suc b) = refl
below_is true false zero b = rw zero-add
below_is true false (suc a) b = lt-ltb 0 (suc a + b) (omega arith)
below_is true true zero zero = refl
below_is true true zero (suc b) = leb-suc-zero (suc b)
below_is true true (suc a) zero = lt-ltb 0 (suc a) (zero-lt-suc a)
below_is true true (suc a) (suc b) = leb-suc-suc (suc b) a

pub whole_lt : {x y : Float} {p q : ℤ} → Whole x p → Whole y q → lt x y ≡ lt_z p q
whole_lt {x} {y} {p} {q} v w =
    let a = parts v in
    let b = parts w in
    lt_is a b ∙ below_is a.sign b.sign (nat_abs p) (nat_abs q) ∙ ap₂ lt_z a.signed b.signed

number : {x : Float} {p : ℤ} → Parts x p → is_nan x ≡ false
unfolding is_nan
number a = rw a.is

pub whole_finite : {x : Float} {p : ℤ} → Whole x p → finite x ≡ true
whole_finite {x} w = let a = parts w in rw a.is

-- no NaN is whole, so `<=` holds where `>` fails
pub whole_le : {x y : Float} {p q : ℤ} → Whole x p → Whole y q → le x y ≡ not (lt_z q p)
whole_le {x} {y} v w = le_is_not_lt y x (number (parts w)) (number (parts v)) ∙ ap not (whole_lt w v)

-- ---- a float is one integer

pub whole_unique : {x : Float} {p q : ℤ} → Whole x p → Whole x q → p ≡ q
whole_unique {x} {p} {q} v w =
    let a = parts v in
    let b = parts w in
    let sizes : nat_abs p * down a.exponent ≡ nat_abs q * down a.exponent = cc in
    let size : nat_abs p ≡ nat_abs q = eq_of_mul-eq-mul_right (down a.exponent) (down_pos a.exponent) (nat_abs p) (nat_abs q) sizes in
    cc

-- ---- the mark f32::MIN / 2

far_below : (n : ℕ) (p : ℤ) → nat_abs p < n → lt_z (neg_ℤ (pos n)) p ≡ true
far_below zero p h = absurd (omega arith)
far_below (suc n) (pos k) h = refl
far_below (suc n) (negsuc k) h = lt-ltb k n (omega arith)

-- it is the integer -depth
abbrev depth : ℕ
depth = (2 ^ 24 - 1) * 2 ^ 103

whole_mark : Whole (of_bits binary32 0xfeff_ffff) (neg_ℤ (pos depth))
unfolding of_bits
whole_mark = record { value = refl }

mark_below : (p : ℤ) → nat_abs p ≤ 2 ^ 24 → lt_z (neg_ℤ (pos depth)) p ≡ true
mark_below p small = far_below depth p (lt_of_le_of_lt small (lit< tt))

pub mark_lt_whole : {x : Float} {p : ℤ} → Whole x p → nat_abs p ≤ 2 ^ 24 → lt (of_bits binary32 0xfeff_ffff) x ≡ true
mark_lt_whole {x} {p} w small = whole_lt whole_mark w ∙ mark_below p small

pub whole_not_le_mark : {x : Float} {p : ℤ} → Whole x p → nat_abs p ≤ 2 ^ 24 → le x (of_bits binary32 0xfeff_ffff) ≡ false
whole_not_le_mark {x} {p} w small = whole_le w whole_mark ∙ ap not (mark_below p small)
