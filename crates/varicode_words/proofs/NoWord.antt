-- What is no word: a value of 1,024 or more, by one test over the 128 words; nothing is found by another length than a value's own, nor
-- by the length 0; so bits that begin and end with 1, hold no 00 and are over ten are none, nor are the lowest fifteen of them. Assumes
-- nothing.
use mathlib.Core.Bool.{Bool, true, false, ◌&&◌, and-false}
use mathlib.Core.List.{List, [], ◌∷◌}
use mathlib.Core.Logic.{⊎_elim}
use mathlib.Core.Path.{◌≡◌, refl, sym, ap, ◌∙◌}
use Prim.Native.Nat.{ℕ, suc, ◌+◌, ◌-◌, ◌*◌, ◌%◌, ◌^◌, ◌≤◌, ◌<◌}
use native.Mathlib.Nat.{mod-eq_of_lt, lt_of_lt_of_le, le_trans, mul-add-mod_self_right, mul_assoc, eq-zero-or-pos}
use native.Mathlib.Omega.{arith}
use borrow.Author.Tests.{ne_eqb, eqb-true}
use lib.Dec.{T, ltb, eqb, ltb→lt, lit<}
use lib.ListN.{length}
use lib.Pow.{pow_mono, pow-add}
use Rattle.binary.specs.Digits.{value}
use Rattle.binary.proofs.Values.{Bits, none, more, value_below}
use Rattle.varicode_words.specs.Table.{words}
use Rattle.varicode_words.specs.Word.{length_of, found, decode_of}
use Rattle.varicode_words.proofs.Sound.{Sound, one, after_one, after_gap}
use Rattle.varicode_words.proofs.Table.{both, passes}

-- nothing is found where every word passes a test that none with these bits and this length does
module _
    (test : ℕ → ℕ → Bool) (bits len : ℕ) (differs : (i w : ℕ) → T (test i w) → eqb w bits && eqb (length_of w) len ≡ false) where
  none_found : (ws : List ℕ) (i k : ℕ) → T (passes test i ws) → found ws k bits len ≡ []
  unfolding found
  none_found [] i k t = refl
  none_found (w ∷ ws) i k t =
      let passed = both (test i w) (passes test (suc i) ws) t in
      rw (differs i w passed.0) (none_found ws (suc i) (suc k) passed.1)

-- ---- a value of 1,024 or more

below_1024 : ℕ → ℕ → Bool
below_1024 b w = ltb w 1024

pub decode_large : (v len : ℕ) → 1024 ≤ v → decode_of v len ≡ []
unfolding decode_of below_1024
decode_large v len large = none_found below_1024 v len differs words 0 0 tt
  where
    differs : (i w : ℕ) → T (below_1024 i w) → eqb w v && eqb (length_of w) len ≡ false
    differs i w t = rw (ne_eqb w v (λ e. omega (arith, ltb→lt w 1024 t)))

-- ---- another length than the value's own

pub decode_other_length : (v len : ℕ) → (length_of v ≡ len → ⊥) → decode_of v len ≡ []
unfolding decode_of
decode_other_length v len other = none_found (λ i w. true) v len (λ i w t. differs w (eqb w v) refl) words 0 0 tt
  where
    differs : (w : ℕ) (here : Bool) → eqb w v ≡ here → eqb w v && eqb (length_of w) len ≡ false
    differs w true e = rw (e, ne_eqb (length_of w) len (λ same. other (ap length_of (sym (eqb-true w v e)) ∙ same)))
    differs w false e = rw e

-- ---- the length 0

has_bits : ℕ → ℕ → Bool
has_bits b w = ltb 0 (length_of w)

pub decode_no_bits : (v : ℕ) → decode_of v 0 ≡ []
unfolding decode_of has_bits length_of
decode_no_bits v = none_found has_bits v 0 differs words 0 0 tt
  where
    differs : (i w : ℕ) → T (has_bits i w) → eqb w v && eqb (length_of w) 0 ≡ false
    differs i w t =
        ap (λ (size : Bool). eqb w v && size) (ne_eqb (length_of w) 0 (λ e. omega (arith, ltb→lt 0 (length_of w) t))) ∙ and-false (eqb w v)

-- ---- sound bits over ten

pub sound_bits : {bs : List ℕ} → Sound bs → Bits bs
sound_bits one = more (lit< tt) none
sound_bits (after_one s) = more (lit< tt) (sound_bits s)
sound_bits (after_gap s) = more (lit< tt) (more (lit< tt) (sound_bits s))

-- the first bit is 1
sound_large : {bs : List ℕ} → Sound bs → 2 ^ (length bs - 1) ≤ value bs
unfolding value
sound_large one = omega arith
sound_large (after_one {bs} s) = le_trans (pow_mono {j = length bs} (omega arith)) (omega arith)
sound_large (after_gap {bs} s) = le_trans (pow_mono {j = length (0 ∷ bs)} (omega arith)) (omega arith)

-- a bit above the lowest fifteen has no part in them
top_dropped : (c : ℕ) (cs : List ℕ) → 15 ≤ length cs → value (c ∷ cs) % 32768 ≡ value cs % 32768
unfolding value
top_dropped c cs h =
    let power : 2 ^ length cs ≡ 2 ^ (length cs - 15) * 32768 = ap (λ (k : ℕ). 2 ^ k) (omega arith) ∙ pow-add 2 (length cs - 15) 15 in
    ap (λ (k : ℕ). (c * k + value cs) % 32768) power
    ∙ ap (λ (k : ℕ). (k + value cs) % 32768) (sym (mul_assoc c (2 ^ (length cs - 15)) 32768))
    ∙ mul-add-mod_self_right (c * 2 ^ (length cs - 15)) 32768 (value cs)

few_bits_low : {bs : List ℕ} → Sound bs → 10 < length bs → length bs ≤ 15 → 1024 ≤ value bs % 32768
few_bits_low {bs} s long few =
    let below : value bs < 32768 = lt_of_lt_of_le (value_below (sound_bits s)) (pow_mono {j = 15} few) in
    rw (mod-eq_of_lt below) (le_trans (pow_mono {i = 10} (omega arith)) (sound_large s))

-- of fifteen bits that hold no 00 one of the first five is 1
long_low : {bs : List ℕ} → Sound bs → 10 < length bs → 1024 ≤ value bs % 32768
unfolding value
long_low one long = absurd (omega arith)
long_low (after_one {bs} s) long =
    ⊎_elim
    (λ (few : length bs - 14 ≡ 0). few_bits_low (after_one s) long (omega arith))
    (λ (many : 0 < length bs - 14). rw (top_dropped 1 bs (omega arith)) (long_low s (omega arith)))
    (eq-zero-or-pos (length bs - 14))
long_low (after_gap {bs} s) long =
    ⊎_elim
    (λ (few : length bs - 13 ≡ 0). few_bits_low (after_gap s) long (omega arith))
    (λ (many : 0 < length bs - 13).
    let behind : value (0 ∷ bs) ≡ value bs = omega arith in
    rw (top_dropped 1 (0 ∷ bs) (omega arith), behind) (long_low s (omega arith)))
    (eq-zero-or-pos (length bs - 13))

module _ {bs : List ℕ} (s : Sound bs) (long : 10 < length bs) (len : ℕ) where
  pub long_no_word : decode_of (value bs) len ≡ []
  long_no_word = decode_large (value bs) len (omega (arith, long_low s long))

  pub long_low_no_word : decode_of (value bs % 32768) len ≡ []
  long_low_no_word = decode_large (value bs % 32768) len (long_low s long)
