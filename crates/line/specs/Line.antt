-- The program's whole output for every input. Definitions only.
use Rattle.std.specs.Prelude.{Bool, not, ◌&&◌, List, [], ◌∷◌, ◌++◌, length, get_or, take, drop}
use Rattle.std.specs.Prelude.{ℕ, ◌+◌, ◌*◌, ◌%◌, ◌^◌, ltb, eqb, Float}
use Rattle.std.specs.Float.{binary32}
use Rattle.std.specs.Float.Ieee.{to_bits}
use Rattle.correlation.specs.Decode as any
use Rattle.encoder.specs.Encode.{coded_length_of, checked_to}
use Rattle.f32s.specs.Single.{all_of_bytes}
use Rattle.forward.specs.Decode.{word, score}
use Rattle.readings.specs.Said.{examined}
use Rattle.refusal.specs.Answer.{Said, accepted, refused, refuse_when}
use Rattle.refusal.specs.Numbers.{bad_input}
use Rattle.trellis.specs.Choice.{k7, code_of, pattern_of}
use Rattle.trellis.specs.Codeword.{steps_of}
use Rattle.text.specs.Text.{hex_digits, decimal, word_text}

-- the most bytes of an input, and the most info bits that it may ask for
abbrev pub most_bytes : ℕ
most_bytes = 8192

abbrev pub most_info : ℕ
most_info = 1000

-- the survivors of as many info bits in the widest code
abbrev pub most_survivors : ℕ
most_survivors = steps_of k7 most_info * 2 ^ k7.width

-- 4 + 4k bytes, and no more than the most
abbrev pub shaped : ℕ → Bool
shaped n = not (ltb n 4) && not (ltb most_bytes n) && eqb (n % 4) 0

module _ (input : List ℕ) where
  -- code, rate, info count with the low byte first, then readings
  abbrev pub code_in : ℕ
  code_in = get_or input 0 0

  abbrev pub rate_in : ℕ
  rate_in = get_or input 1 0

  abbrev pub info_in : ℕ
  info_in = get_or input 2 0 + 256 * get_or input 3 0

  abbrev pub readings_in : List Float
  readings_in = all_of_bytes (drop 4 input)

  -- a bad input is refused first, then what a decoding refuses, with a limit of the program's own
  unfoldable pub line_said : Said Float
  unfolding any.score
  line_said =
      refuse_when (not (shaped (length input))) bad_input
      (checked_to most_info code_in rate_in info_in
      (examined (take (coded_length_of code_in rate_in info_in) readings_in)
      (accepted (score (code_of code_in) (pattern_of code_in rate_in) readings_in info_in))))

  unfoldable pub word_in : List ℕ
  unfolding any.word
  word_in = word (code_of code_in) (pattern_of code_in rate_in) readings_in info_in

-- ---- in ASCII

abbrev pub word_space : List ℕ
word_space = 119 ∷ 111 ∷ 114 ∷ 100 ∷ 32 ∷ []

abbrev pub space_score_space : List ℕ
space_score_space = 32 ∷ 115 ∷ 99 ∷ 111 ∷ 114 ∷ 101 ∷ 32 ∷ []

abbrev pub refused_space : List ℕ
refused_space = 114 ∷ 101 ∷ 102 ∷ 117 ∷ 115 ∷ 101 ∷ 100 ∷ 32 ∷ []

abbrev pub space_at_space : List ℕ
space_at_space = 32 ∷ 97 ∷ 116 ∷ 32 ∷ []

abbrev pub newline : List ℕ
newline = 10 ∷ []

-- `word BITS score BITS`, or `refused NUMBER at PLACE`
abbrev pub line_of : Said Float → List ℕ → List ℕ
line_of (accepted score) bits =
    (((word_space ++ word_text bits) ++ space_score_space) ++ hex_digits 8 (to_bits binary32 score)) ++ newline
line_of (refused number place) bits =
    (((refused_space ++ decimal number) ++ space_at_space) ++ decimal place) ++ newline

unfoldable pub output : List ℕ → List ℕ
unfolding line_said word_in hex_digits
output input = line_of (line_said input) (word_in input)
