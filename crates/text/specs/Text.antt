-- Numbers and words as the program writes them, in ASCII. Definitions only.
use Rattle.std.specs.Prelude.{cond, List, [], ◌∷◌, ◌++◌, map, drop, length, replicate, ◌≡◌}
use Rattle.std.specs.Prelude.{ℕ, zero, suc, ◌+◌, ◌-◌, ◌/◌, ◌%◌, ◌≤◌, ltb, eqb}

-- 0 to 9, then A to F
abbrev pub digit : ℕ → ℕ
digit d = cond (ltb d 10) (48 + d) (55 + d)

-- the last k hex digits of n
unfoldable pub hex_digits : (k n : ℕ) → List ℕ
hex_digits zero n = []
hex_digits (suc k) n = hex_digits k (n / 16) ++ (digit (n % 16) ∷ [])

-- n in decimal, where k digits are enough
unfoldable pub decimal_digits : (k n : ℕ) → List ℕ
decimal_digits zero n = []
decimal_digits (suc k) n = cond (ltb n 10) (digit n ∷ []) (decimal_digits k (n / 10) ++ (digit (n % 10) ∷ []))

-- ten digits are enough for a number of 32 bits
abbrev pub decimal : ℕ → List ℕ
decimal n = decimal_digits 10 n

-- a word's bits, and - for an empty word
abbrev pub bit_text : ℕ → ℕ
bit_text b = cond (eqb b 0) 48 49

abbrev pub word_text : List ℕ → List ℕ
word_text [] = 45 ∷ []
word_text (b ∷ bits) = map bit_text (b ∷ bits)

-- a line's bytes: its text within the room, and zeros behind it
pub record Written (room len : ℕ) (bytes : List ℕ) : Type 0 where
  pub sized : length bytes ≡ room
  pub within : len ≤ room
  pub behind : drop len bytes ≡ replicate (room - len) 0
