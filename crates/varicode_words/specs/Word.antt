-- The word of a byte, and the byte of a word. Definitions only.
use Rattle.std.specs.Prelude.{Bool, false, cond, ◌&&◌, List, [], ◌∷◌, ◌≡◌, ℕ, suc, ◌-◌, ltb, eqb, get_or}
use Rattle.std.specs.Prelude.{Option, Some, None}
use Rattle.std.specs.Int.Count.{count_leading_zeros}
use Rattle.binary.specs.Digits.{digits}
use Rattle.varicode_words.specs.declared.Word.{Word}
use Rattle.varicode_words.specs.Table.{words}

-- a word begins with 1, so its length is that of the number in binary
unfoldable pub length_of : ℕ → ℕ
unfolding count_leading_zeros
length_of word = 16 - count_leading_zeros 16 word

-- the word of a byte; bytes 128 to 255 have byte 0's
unfoldable pub word_of : ℕ → ℕ
word_of byte = get_or words (cond (ltb byte 128) byte 0) 0

-- a word's bits, first one first
unfoldable pub bits_of : ℕ → List ℕ
unfolding digits length_of
bits_of word = digits (length_of word) word

-- a sound word is 1, or a sound word after 1 or 10: it begins and ends with 1, and holds no 00
unfoldable pub sound : List ℕ → Bool
sound [] = false
sound (b ∷ []) = eqb b 1
sound (b ∷ c ∷ bs) = eqb b 1 && cond (eqb c 0) (sound bs) (sound (c ∷ bs))

-- what `varicode_encode` answers
pub record Spells (byte : ℕ) (r : Word) : Type 0 where
  pub bits : r.bits ≡ word_of byte
  pub len : r.len ≡ length_of (word_of byte)

-- the byte that `varicode_decode` answers, if there is one
abbrev pub letter_said : Option ℕ → List ℕ
letter_said (Some b) = b ∷ []
letter_said None = []

-- the place of the first word of a list, counted from k, that has these bits and this length, if there is one
unfoldable pub found : List ℕ → ℕ → ℕ → ℕ → List ℕ
unfolding length_of
found [] k bits len = []
found (w ∷ ws) k bits len = cond (eqb w bits && eqb (length_of w) len) (k ∷ []) (found ws (suc k) bits len)

-- the byte of a word
unfoldable pub decode_of : ℕ → ℕ → List ℕ
unfolding found
decode_of bits len = found words 0 bits len
