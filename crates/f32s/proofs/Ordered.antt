-- The order of the f32s: `<` as IEEE 754 has it is a strict order over every value, NaN, infinities, both zeros and finite ones, and `≤` is
-- its denial where no NaN stands. Assumes nothing.
use mathlib.Core.Bool.{Bool, true, false, not, ◌&&◌, ◌||◌, or-not_self}
use mathlib.Core.Path.{◌≡◌, refl, sym, ap, ◌∙◌}
use Prim.Native.Nat.{ℕ, ◌+◌, ◌*◌, ◌<◌}
use native.Mathlib.Nat.{add_comm, zero-mul, add-mul, mul_right_comm, mul-le-mul_right, mul-lt-mul_of_pos_right}
use native.Mathlib.Omega.{arith}
use borrow.Author.Tests.{ltb-true, ltb-false, eqb-true, eqb-false, lt-ltb, le-ltb, eq-eqb, ne_eqb}
use lib.Dec.{ltb, eqb}
use lib.Ieee.{Float, nan, inf, fin, up, down, below, level, lt, le, is_nan}
use lib.Ieee.Fits.{down_pos}

-- ---- natural numbers with a sign

below_trans : (s t r : Bool) (a b c : ℕ) → below s a t b ≡ true → below t b r c ≡ true → below s a r c ≡ true
below_trans false false false a b c h k = lt-ltb a c (omega (arith, ltb-true))
below_trans false false true a b c h k = k
below_trans false true r a b c h k = cc
below_trans true false false a b c h k = lt-ltb 0 (a + c) (omega (arith, ltb-true))
below_trans true false true a b c h k = cc
below_trans true true false a b c h k = lt-ltb 0 (a + c) (omega (arith, ltb-true))
below_trans true true true a b c h k = lt-ltb c a (omega (arith, ltb-true))

pub ltb_scale : (a b k : ℕ) → 0 < k → ltb (a * k) (b * k) ≡ ltb a b
ltb_scale a b k K = go (ltb a b) refl
  where
    go : (t : Bool) → ltb a b ≡ t → ltb (a * k) (b * k) ≡ t
    go true e = lt-ltb (a * k) (b * k) (mul-lt-mul_of_pos_right (ltb-true a b e) K)
    go false e = le-ltb (a * k) (b * k) (mul-le-mul_right k (ltb-false a b e))

pub below_scale : (s t : Bool) (a b k : ℕ) → 0 < k → below s (a * k) t (b * k) ≡ below s a t b
below_scale false false a b k K = ltb_scale a b k K
below_scale false true a b k K = refl
below_scale true false a b k K = rw (zero-mul, add-mul) at (ltb_scale 0 (a + b) k K)
below_scale true true a b k K = ltb_scale b a k K

-- Three fractions a / p, b / q, c / u with a sign each. All three go over the denominator p * q * u, and there it is the order of the
-- numerators.
cross_trans :
    (s t r : Bool) (a b c p q u : ℕ) → 0 < p → 0 < q → 0 < u → below s (a * q) t (b * p) ≡ true → below t (b * u) r (c * q) ≡ true →
    below s (a * u) r (c * p) ≡ true
cross_trans s t r a b c p q u P Q U h k =
    let first : below s (a * u * q) t (b * p * u) ≡ true = rw (mul_right_comm a u q) (below_scale s t (a * q) (b * p) u U ∙ h) in
    let second : below t (b * p * u) r (c * p * q) ≡ true =
    rw (mul_right_comm b p u, mul_right_comm c p q) (below_scale t r (b * u) (c * q) p P ∙ k) in
    sym (below_scale s r (a * u) (c * p) q Q) ∙ below_trans s t r (a * u * q) (b * p * u) (c * p * q) first second

-- what is not below the second of two is above the first
below_split : (s t r : Bool) (a b c : ℕ) → below s a t b ≡ true → below r c t b ≡ false → below s a r c ≡ true
below_split false false false a b c h k = lt-ltb a c (omega (arith, ltb-true, ltb-false))
below_split false false true a b c h k = absurd (omega (arith, ltb-true, ltb-false))
below_split false true r a b c h k = cc
below_split true false false a b c h k = lt-ltb 0 (a + c) (omega (arith, ltb-true, ltb-false))
below_split true false true a b c h k = lt-ltb c a (omega (arith, ltb-true, ltb-false))
below_split true true false a b c h k = lt-ltb 0 (a + c) (omega (arith, ltb-true))
below_split true true true a b c h k = lt-ltb c a (omega (arith, ltb-true, ltb-false))

cross_split :
    (s t r : Bool) (a b c p q u : ℕ) → 0 < p → 0 < q → 0 < u → below s (a * q) t (b * p) ≡ true → below r (c * q) t (b * u) ≡ false →
    below s (a * u) r (c * p) ≡ true
cross_split s t r a b c p q u P Q U h k =
    let first : below s (a * u * q) t (b * p * u) ≡ true = rw (mul_right_comm a u q) (below_scale s t (a * q) (b * p) u U ∙ h) in
    let second : below r (c * p * q) t (b * p * u) ≡ false =
    rw (mul_right_comm b p u, mul_right_comm c p q) (below_scale r t (c * q) (b * u) p P ∙ k) in
    sym (below_scale s r (a * u) (c * p) q Q) ∙ below_split s t r (a * u * q) (b * p * u) (c * p * q) first second

below_irrefl : (s : Bool) (a : ℕ) → below s a s a ≡ false
below_irrefl false a = le-ltb a a (omega arith)
below_irrefl true a = le-ltb a a (omega arith)

not_ltb : (a b : ℕ) → (ltb b a || (eqb b a && true)) ≡ not (ltb a b)
not_ltb a b = go (ltb a b) (eqb b a) refl refl
  where
    go : (p q : Bool) → ltb a b ≡ p → eqb b a ≡ q → (ltb b a || (q && true)) ≡ not p
    go true true h k = absurd (omega (arith, ltb-true, eqb-true))
    go true false h k = rw (le-ltb b a (omega (arith, ltb-true)))
    go false true h k = rw (le-ltb b a (omega (arith, eqb-true)))
    go false false h k = rw (lt-ltb b a (omega (arith, ltb-false, eqb-false)))

-- -0 and +0 are level: with unlike signs two sizes are the same number only where both are 0
zero_sum : (a b : ℕ) → (eqb b a && eqb b 0) ≡ not (ltb 0 (a + b))
zero_sum a b = go (eqb b a) (eqb b 0) refl refl
  where
    go : (p q : Bool) → eqb b a ≡ p → eqb b 0 ≡ q → (p && q) ≡ not (ltb 0 (a + b))
    go true true h k = rw (le-ltb 0 (a + b) (omega (arith, eqb-true)))
    go true false h k = rw (lt-ltb 0 (a + b) (omega (arith, eqb-true, eqb-false)))
    go false q h k = rw (lt-ltb 0 (a + b) (omega (arith, eqb-false)))

eqb_sym : (a b : ℕ) → eqb a b ≡ eqb b a
eqb_sym a b = go (eqb b a) refl
  where
    go : (q : Bool) → eqb b a ≡ q → eqb a b ≡ q
    go true h = eq-eqb a b (sym (eqb-true b a h))
    go false h = ne_eqb a b (λ e. eqb-false b a h (sym e))

not-below : (s t : Bool) (a b : ℕ) → (below t b s a || level t b s a) ≡ not (below s a t b)
not-below false false a b = not_ltb a b
not-below false true a b = rw (zero_sum a b, add_comm b a) (or-not_self (ltb 0 (a + b)))
not-below true false a b = zero_sum a b
not-below true true a b = rw (eqb_sym b a) (not_ltb b a)

-- ---- floats

-- an infinity has nothing beyond it, so it stands between no two values
pub none_below : (x : Float) → lt x (inf true) ≡ false
unfolding lt
none_below nan = refl
none_below (inf true) = refl
none_below (inf false) = refl
none_below (fin s m e) = refl

pub none_above : (x : Float) → lt (inf false) x ≡ false
unfolding lt
none_above nan = refl
none_above (inf s) = refl
none_above (fin s m e) = refl

pub lt_trans : (x y z : Float) → lt x y ≡ true → lt y z ≡ true → lt x z ≡ true
unfolding lt
lt_trans x nan z h k = cc
lt_trans x (inf true) z h k = cc (none_below x)
lt_trans x (inf false) z h k = cc (none_above z)
lt_trans nan (fin t n d) z h k = cc
lt_trans (inf s) (fin t n d) nan h k = cc
lt_trans (fin s m e) (fin t n d) nan h k = cc
lt_trans (inf s) (fin t n d) (inf r) h k = rw (h, k)
lt_trans (inf s) (fin t n d) (fin r o c) h k = h
lt_trans (fin s m e) (fin t n d) (inf r) h k = k
lt_trans (fin s m e) (fin t n d) (fin r o c) h k =
    cross_trans s t r (m * up e) (n * up d) (o * up c) (down e) (down d) (down c) (down_pos e) (down_pos d) (down_pos c) h k

pub lt_irrefl : (x : Float) → lt x x ≡ false
unfolding lt
lt_irrefl nan = refl
lt_irrefl (inf true) = refl
lt_irrefl (inf false) = refl
lt_irrefl (fin s m e) = below_irrefl s (m * up e * down e)

-- a number that is not below the second of two is above the first
pub lt_split : (x y z : Float) → is_nan z ≡ false → lt x y ≡ true → lt z y ≡ false → lt x z ≡ true
unfolding lt is_nan
lt_split x (inf true) z p h k = cc (none_below x)
lt_split nan nan z p h k = cc
lt_split (inf s) nan z p h k = cc
lt_split (fin s m e) nan z p h k = cc
lt_split nan (inf false) z p h k = cc
lt_split (inf s) (inf false) nan p h k = cc
lt_split (inf s) (inf false) (inf true) p h k = cc
lt_split (inf s) (inf false) (inf false) p h k = h
lt_split (inf s) (inf false) (fin r o c) p h k = cc
lt_split (fin s m e) (inf false) nan p h k = cc
lt_split (fin s m e) (inf false) (inf true) p h k = cc
lt_split (fin s m e) (inf false) (inf false) p h k = refl
lt_split (fin s m e) (inf false) (fin r o c) p h k = cc
lt_split nan (fin t n d) z p h k = cc
lt_split (inf s) (fin t n d) nan p h k = cc
lt_split (inf s) (fin t n d) (inf r) p h k = rw (h, k)
lt_split (inf s) (fin t n d) (fin r o c) p h k = h
lt_split (fin s m e) (fin t n d) nan p h k = cc
lt_split (fin s m e) (fin t n d) (inf r) p h k = rw k
lt_split (fin s m e) (fin t n d) (fin r o c) p h k =
    cross_split s t r (m * up e) (n * up d) (o * up c) (down e) (down d) (down c) (down_pos e) (down_pos d) (down_pos c) h k

-- what is not below the larger of two is not below the smaller either
pub not_lt_smaller : (x y z : Float) → lt y z ≡ true → lt x z ≡ false → lt x y ≡ false
not_lt_smaller x y z h k = go (lt x y) refl
  where
    go : (t : Bool) → lt x y ≡ t → t ≡ false
    go true e = sym (lt_trans x y z e h) ∙ k
    go false e = refl

-- not to be below is transitive, with a number between
pub not_lt_trans : (x y z : Float) → is_nan y ≡ false → lt x y ≡ false → lt y z ≡ false → lt x z ≡ false
not_lt_trans x y z p h k = go (lt x z) refl
  where
    go : (t : Bool) → lt x z ≡ t → t ≡ false
    go true e = sym (lt_split x z y p e k) ∙ h
    go false e = refl

-- Where neither is a NaN, `≤` is `<` the other way round, denied.
pub le_is_not_lt : (x y : Float) → is_nan x ≡ false → is_nan y ≡ false → le y x ≡ not (lt x y)
unfolding le is_nan
le_is_not_lt nan y p q = cc
le_is_not_lt (inf s) nan p q = cc
le_is_not_lt (inf true) (inf true) p q = refl
le_is_not_lt (inf true) (inf false) p q = refl
le_is_not_lt (inf false) (inf true) p q = refl
le_is_not_lt (inf false) (inf false) p q = refl
le_is_not_lt (inf true) (fin t n d) p q = refl
le_is_not_lt (inf false) (fin t n d) p q = refl
le_is_not_lt (fin s m e) nan p q = cc
le_is_not_lt (fin s m e) (inf true) p q = refl
le_is_not_lt (fin s m e) (inf false) p q = refl
le_is_not_lt (fin s m e) (fin t n d) p q = not-below s t (m * up e * down d) (n * up d * down e)

pub not_lt_le : (x y : Float) → is_nan x ≡ false → is_nan y ≡ false → lt x y ≡ false → le y x ≡ true
not_lt_le x y p q h = le_is_not_lt x y p q ∙ ap not h

-- a NaN is below nothing, and nothing is below it
pub lt_numbers : (x y : Float) → lt x y ≡ true → (is_nan x ≡ false) × (is_nan y ≡ false)
unfolding lt is_nan
lt_numbers nan y h = (cc, cc)
lt_numbers (inf s) nan h = (refl, cc)
lt_numbers (inf s) (inf t) h = (refl, refl)
lt_numbers (inf s) (fin t n d) h = (refl, refl)
lt_numbers (fin s m e) nan h = (refl, cc)
lt_numbers (fin s m e) (inf t) h = (refl, refl)
lt_numbers (fin s m e) (fin t n d) h = (refl, refl)

pub lt_not_le : (x y : Float) → lt x y ≡ true → le y x ≡ false
lt_not_le x y h = le_is_not_lt x y (lt_numbers x y h).0 (lt_numbers x y h).1 ∙ ap not h
