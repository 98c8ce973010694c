-- Reading a word and its gap from nothing heard, in either reader, bit by bit: the second zero brings what the word is looked up as, no
-- other bit brings anything, and nothing is heard again. Over any sound word, of any length; one of over ten bits brings nothing.
-- Assumes nothing.
use mathlib.Core.Bool.{Bool, true, false}
use mathlib.Core.List.{List, [], ◌∷◌, ◌++◌, append_assoc}
use mathlib.Core.Logic.{⊎_elim}
use mathlib.Core.Path.{◌≡◌, refl, sym, ap, ◌∙◌}
use Prim.Native.Nat.{ℕ, zero, suc, ◌+◌, ◌-◌, ◌*◌, ◌/◌, ◌%◌, min, ◌<◌}
use native.Mathlib.Nat.{mod-eq_of_lt, lt_of_lt_of_le, eq-zero-or-pos}
use native.Mathlib.Numerals.{add-one}
use native.Mathlib.Omega.{arith}
use lib.Dec.{eqb}
use lib.ListN.{length, replicate, length-append}
use lib.Pow.{pow_mono}
use Rattle.binary.specs.Digits.{value}
use Rattle.binary.proofs.Values.{value_below, value_snoc}
use Rattle.varicode_reader.specs.Reader.{Heard, nothing_heard, zero_ends, letter_at, joined_to, heard_after}
use Rattle.varicode_reader.specs.Reader.{brings_from, concat, letters_from}
use Rattle.varicode_reader.proofs.Ends.{ends_after_zero, goes_on_in_a_word}
use Rattle.varicode_words.specs.Word.{decode_of}
use Rattle.varicode_words.proofs.NoWord.{decode_no_bits, sound_bits, long_no_word, long_low_no_word}
use Rattle.varicode_words.proofs.Sound.{Sound, one, after_one, after_gap, sound_some}

-- ---- what is heard of the part of a word that has passed: its lowest sixteen bits, and its length up to 11

abbrev heard_of : List ℕ → Bool → Heard
heard_of part z = record { shift = value part % 65536; len = min (length part) 11; prev_zero = z }

joined : (part : List ℕ) (z : Bool) (b : ℕ) → joined_to (heard_of part z) b ≡ heard_of (part ++ b ∷ []) (eqb b 0)
joined part z b =
    let shift : (2 * (value part % 65536) + b) % 65536 ≡ value (part ++ b ∷ []) % 65536 = rw (value_snoc part b) (omega arith) in
    let count : min (min (length part) 11 + 1) 11 ≡ min (length (part ++ b ∷ [])) 11 = omega (arith, length-append part (b ∷ [])) in
    rw (shift, count)

-- ---- what the bits bring

abbrev nothing_then : List (List ℕ) → List (List ℕ)
nothing_then brings = [] ∷ brings

module _ (p : Bool) where
  one_joins :
      (part : List ℕ) (z : Bool) (tail : List ℕ) →
      brings_from p (heard_of part z) (1 ∷ tail) ≡ [] ∷ brings_from p (heard_of (part ++ 1 ∷ []) false) tail
  unfolding brings_from letter_at heard_after
  one_joins part z tail = ap (λ (h : Heard). [] ∷ brings_from p h tail) (joined part z 1)

  zero_joins :
      (part tail : List ℕ) → 0 < length part →
      brings_from p (heard_of part false) (0 ∷ tail) ≡ [] ∷ brings_from p (heard_of (part ++ 0 ∷ []) true) tail
  unfolding brings_from letter_at heard_after
  zero_joins part tail some =
      rw (goes_on_in_a_word p (heard_of part false) refl (omega arith))
      (ap (λ (h : Heard). [] ∷ brings_from p h tail) (joined part false 0))

  -- a sound word joins what has passed
  word_joins :
      {word : List ℕ} → Sound word → (part : List ℕ) (z : Bool) (tail : List ℕ) →
      brings_from p (heard_of part z) (word ++ tail) ≡ replicate (length word) [] ++ brings_from p (heard_of (part ++ word) false) tail
  word_joins one part z tail = one_joins part z tail
  word_joins (after_one {bs} s) part z tail =
      one_joins part z (bs ++ tail)
      ∙ ap nothing_then
      (word_joins s (part ++ 1 ∷ []) false tail
      ∙ ap (λ (l : List ℕ). replicate (length bs) [] ++ brings_from p (heard_of l false) tail) (append_assoc part (1 ∷ []) bs))
  word_joins (after_gap {bs} s) part z tail =
      let begun = part ++ 1 ∷ [] in
      one_joins part z (0 ∷ (bs ++ tail))
      ∙ ap nothing_then
      (zero_joins begun (bs ++ tail) (omega (arith, length-append part (1 ∷ [])))
      ∙ ap nothing_then
      (word_joins s (begun ++ 0 ∷ []) true tail
      ∙ ap (λ (l : List ℕ). replicate (length bs) [] ++ brings_from p (heard_of l false) tail)
      (append_assoc begun (0 ∷ []) bs ∙ append_assoc part (1 ∷ []) (0 ∷ bs))))

  -- the two zeros of a gap end the word that has passed, and its lowest fifteen bits are looked up
  gap_ends :
      (word tail : List ℕ) → 0 < length word →
      brings_from p (heard_of word false) (0 ∷ 0 ∷ tail)
      ≡ [] ∷ decode_of (value (word ++ 0 ∷ []) % 65536 / 2) (min (length (word ++ 0 ∷ [])) 11 - 1) ∷ brings_from p nothing_heard tail
  unfolding brings_from letter_at heard_after
  gap_ends word tail some = zero_joins word (0 ∷ tail) some ∙ rw (ends_after_zero p (heard_of (word ++ 0 ∷ []) true) refl)

-- which comes to looking up the word itself: up to ten bits it stands in them whole, and over ten bits neither is a word
looked_up :
    {word : List ℕ} → Sound word →
    decode_of (value (word ++ 0 ∷ []) % 65536 / 2) (min (length (word ++ 0 ∷ [])) 11 - 1) ≡ decode_of (value word) (length word)
looked_up {word} s =
    let low : value (word ++ 0 ∷ []) % 65536 / 2 ≡ value word % 32768 = rw (value_snoc word 0) (omega arith) in
    let size = length-append word (0 ∷ []) in
    ⊎_elim
    (λ (short : length word - 10 ≡ 0).
    let below : value word < 32768 = lt_of_lt_of_le (value_below (sound_bits s)) (pow_mono {j = 15} (omega arith)) in
    let len : min (length (word ++ 0 ∷ [])) 11 - 1 ≡ length word = omega arith in
    rw (low, mod-eq_of_lt below, len))
    (λ (long : 0 < length word - 10).
    rw low (long_low_no_word s (omega arith) _ ∙ sym (long_no_word s (omega arith) (length word))))
    (eq-zero-or-pos (length word - 10))

nothing_first : (n : ℕ) (ls : List (List ℕ)) → replicate n [] ++ ([] ∷ ls) ≡ [] ∷ (replicate n [] ++ ls)
nothing_first zero ls = refl
nothing_first (suc n) ls = ap nothing_then (nothing_first n ls)

nothing_behind : (n : ℕ) (ls : List (List ℕ)) → replicate n [] ++ ([] ∷ ls) ≡ replicate (n + 1) [] ++ ls
nothing_behind n ls = rw (add-one n) (nothing_first n ls)

module _ (p : Bool) {word : List ℕ} (s : Sound word) (tail : List ℕ) where
  -- one entry for each bit: nothing for the word's bits and the first zero, the letter for the second
  pub word_brings :
      brings_from p nothing_heard (word ++ (0 ∷ 0 ∷ tail))
      ≡ replicate (length word + 1) [] ++ (decode_of (value word) (length word) ∷ brings_from p nothing_heard tail)
  unfolding value
  word_brings =
      let after = brings_from p nothing_heard tail in
      word_joins p s [] false (0 ∷ 0 ∷ tail)
      ∙ ap (λ (l : List (List ℕ)). replicate (length word) [] ++ l)
      (gap_ends p word tail (sound_some s) ∙ ap (λ (l : List ℕ). [] ∷ l ∷ after) (looked_up s))
      ∙ nothing_behind (length word) (decode_of (value word) (length word) ∷ after)

  -- a word of over ten bits brings nothing, whatever its last ten are
  pub long_word_brings_nothing :
      10 < length word →
      brings_from p nothing_heard (word ++ (0 ∷ 0 ∷ tail)) ≡ replicate (length word + 2) [] ++ brings_from p nothing_heard tail
  long_word_brings_nothing long =
      let count : length word + 1 + 1 ≡ length word + 2 = omega arith in
      word_brings
      ∙ ap (λ (l : List ℕ). replicate (length word + 1) [] ++ (l ∷ brings_from p nothing_heard tail)) (long_no_word s long (length word))
      ∙ nothing_behind (length word + 1) (brings_from p nothing_heard tail)
      ∙ ap (λ (n : ℕ). replicate n [] ++ brings_from p nothing_heard tail) count

-- ---- the characters alone

concat-nothing : (n : ℕ) (ls : List (List ℕ)) → concat (replicate n [] ++ ls) ≡ concat ls
concat-nothing zero ls = refl
concat-nothing (suc n) ls = concat-nothing n ls

pub word_read :
    (p : Bool) {word : List ℕ} → Sound word → (tail : List ℕ) →
    letters_from p nothing_heard (word ++ (0 ∷ 0 ∷ tail)) ≡ decode_of (value word) (length word) ++ letters_from p nothing_heard tail
unfolding letters_from
word_read p {word} s tail = ap concat (word_brings p s tail) ∙ concat-nothing (length word + 1) _

-- two zeros with nothing before them bring nothing
pub zeros_read : (tail : List ℕ) → letters_from false nothing_heard (0 ∷ 0 ∷ tail) ≡ letters_from false nothing_heard tail
unfolding letters_from brings_from letter_at heard_after zero_ends
zeros_read tail = ap (λ (l : List ℕ). l ++ letters_from false nothing_heard tail) (decode_no_bits 0)

-- the reader for pauses skips each
pub zero_skipped : (tail : List ℕ) → brings_from true nothing_heard (0 ∷ tail) ≡ [] ∷ brings_from true nothing_heard tail
unfolding brings_from letter_at heard_after zero_ends
zero_skipped tail = ap (λ (l : List ℕ). l ∷ brings_from true nothing_heard tail) (decode_no_bits 0)

pub zeros_skipped :
    (k : ℕ) (tail : List ℕ) → letters_from true nothing_heard (replicate k 0 ++ tail) ≡ letters_from true nothing_heard tail
unfolding letters_from
zeros_skipped zero tail = refl
zeros_skipped (suc k) tail = ap concat (zero_skipped (replicate k 0 ++ tail)) ∙ zeros_skipped k tail

-- ones bring nothing
pub ones-read : (p : Bool) (n : ℕ) (h : Heard) → letters_from p h (replicate n 1) ≡ []
unfolding letters_from brings_from letter_at heard_after
ones-read p zero h = refl
ones-read p (suc n) h = ones-read p n _
