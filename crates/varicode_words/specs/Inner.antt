-- What the inner functions ask and ensure: the table by value. Definitions only.
use Rattle.std.specs.Prelude.{cond, List, [], ◌∷◌, ◌≡◌, ℕ, eqb}
use Rattle.varicode_words.specs.Word.{length_of, decode_of}

-- how many values the table has, since a word has at most ten bits
abbrev pub values : ℕ
values = 1024

-- the mark: the entry of a value that is no word
abbrev pub no_word : ℕ
no_word = 255

-- the byte in an entry, if it is not the mark
unfoldable pub byte_in : ℕ → List ℕ
byte_in entry = cond (eqb entry no_word) [] (entry ∷ [])

-- `entry_at`: the entry of a value is right: it has the byte whose word the value is, or the mark where there is none
pub record Right (value entry : ℕ) : Type 0 where
  pub byte : byte_in entry ≡ decode_of value (length_of value)
