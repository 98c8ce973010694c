-- What holds of Martinez's table, each by one test over its 128 words. Assumes nothing.
use mathlib.Core.Bool.{Bool, true, false, ◌&&◌}
use mathlib.Core.List.{[], ◌∷◌}
use mathlib.Core.Path.{◌≡◌, refl}
use Prim.Native.Nat.{ℕ, suc, ◌-◌, ◌%◌, ◌^◌, ◌<◌, ◌≤◌}
use native.Mathlib.Omega.{arith}
use borrow.Author.Tests.{lt-ltb, le-ltb, ltb-true, ltb-false}
use lib.Dec.{T, ltb, leb, eqb, ltb→lt, leb→le, eqb→eq, lit<}
use lib.ListN.{length, get_or}
use Rattle.binary.proofs.Values.{length_digits}
use Rattle.varicode_words.specs.Table.{words}
use Rattle.varicode_words.specs.Word.{length_of, word_of, bits_of, sound, decode_of}
use Rattle.varicode_words.proofs.Sound.{Sound, sound_rule, sound_begins, sound_ends, sound_no_gap}
use Rattle.varicode_words.proofs.Table.{both, same, same_equal, passes, passes_at}

-- ---- bytes and entries

pub word_at : (b : ℕ) → b < 128 → word_of b ≡ get_or words b 0
unfolding word_of
word_at b h = rw (lt-ltb b 128 h)

pub word_high : (b : ℕ) → 128 ≤ b → word_of b ≡ word_of 0
unfolding word_of
word_high b h = rw (le-ltb b 128 h)

-- what holds of each of the 128 words holds of the word of any byte
pub any_word : (P : ℕ → Type 0) → ((b : ℕ) → b < 128 → P (word_of b)) → (b : ℕ) → P (word_of b)
any_word P rule b = of (ltb b 128) refl
  where
    of : (t : Bool) → ltb b 128 ≡ t → P (word_of b)
    of true e = rule b (ltb-true b 128 e)
    of false e = rw (word_high b (ltb-false b 128 e)) (rule 0 (lit< tt))

-- a test that passes at each of the 128 words passes at the word of each byte
passed : (test : ℕ → ℕ → Bool) → T (passes test 0 words) → (b : ℕ) → b < 128 → T (test b (word_of b))
passed test t b h = rw (word_at b h) (passes_at test words t b 0 h)

-- ---- lengths

few : ℕ → ℕ → Bool
few b w = leb 1 (length_of w) && leb (length_of w) 10

pub word_length : (b : ℕ) → b < 128 → (1 ≤ length_of (word_of b)) × (length_of (word_of b) ≤ 10)
unfolding few length_of
word_length b h =
    let n = length_of (word_of b) in
    let t = both (leb 1 n) (leb n 10) (passed few tt b h) in
    (leb→le 1 n t.0, leb→le n 10 t.1)

pub any_word_length : (b : ℕ) → (1 ≤ length_of (word_of b)) × (length_of (word_of b) ≤ 10)
any_word_length b = any_word (λ (w : ℕ). (1 ≤ length_of w) × (length_of w ≤ 10)) word_length b

pub length-bits : (w : ℕ) → length (bits_of w) ≡ length_of w
unfolding bits_of
length-bits w = length_digits (length_of w) w

sized : ℕ → ℕ → Bool
sized b w = ltb w (2 ^ length_of w)

pub word_sized : (b : ℕ) → b < 128 → word_of b < 2 ^ length_of (word_of b)
unfolding sized length_of
word_sized b h = ltb→lt (word_of b) (2 ^ length_of (word_of b)) (passed sized tt b h)

-- ---- bits

regular : ℕ → ℕ → Bool
regular b w = sound (bits_of w)

pub word_sound : (b : ℕ) → b < 128 → T (sound (bits_of (word_of b)))
unfolding regular sound bits_of
word_sound b h = passed regular tt b h

module _ (b : ℕ) (low : b < 128) where
  pub word_rule : Sound (bits_of (word_of b))
  word_rule = sound_rule (bits_of (word_of b)) (word_sound b low)

  pub word_begins : get_or (bits_of (word_of b)) 0 0 ≡ 1
  word_begins = sound_begins word_rule

  pub word_no_gap :
      (i : ℕ) → suc i < length_of (word_of b) → get_or (bits_of (word_of b)) i 0 ≡ 0 → get_or (bits_of (word_of b)) (suc i) 0 ≡ 0 → ⊥
  word_no_gap i h = sound_no_gap word_rule i (rw (length-bits (word_of b)) h)

pub any_word_rule : (b : ℕ) → Sound (bits_of (word_of b))
any_word_rule b = any_word (λ (w : ℕ). Sound (bits_of w)) word_rule b

odd : ℕ → ℕ → Bool
odd b w = eqb (w % 2) 1

pub word_ends : (b : ℕ) → b < 128 → (word_of b % 2 ≡ 1) × (get_or (bits_of (word_of b)) (length_of (word_of b) - 1) 0 ≡ 1)
unfolding odd
word_ends b h = (
  eqb→eq (word_of b % 2) 1 (passed odd tt b h),
  sound_ends (word_rule b h) (length_of (word_of b) - 1) (omega (arith, length-bits (word_of b), word_length b h)),
)

-- ---- back

decodes : ℕ → ℕ → Bool
decodes b w = same (decode_of w (length_of w)) (b ∷ [])

pub word_decodes : (b : ℕ) → b < 128 → decode_of (word_of b) (length_of (word_of b)) ≡ b ∷ []
unfolding decodes decode_of length_of
word_decodes b h = same_equal (decode_of (word_of b) (length_of (word_of b))) (b ∷ []) (passed decodes tt b h)

pub words_apart : (a b : ℕ) → a < 128 → b < 128 → word_of a ≡ word_of b → a ≡ b
words_apart a b g h e = cc (word_decodes a g, word_decodes b h)
