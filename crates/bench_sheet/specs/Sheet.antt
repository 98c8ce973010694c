-- The lines of document 01's bench sheet that it marks P, and those that requests add, as one table. Definitions only.
use Rattle.std.specs.Prelude.{true, false, List, [], ◌∷◌, map, ◌≡◌, ℕ, Float, ℤ, pos, neg_ℤ, length}
use Rattle.std.specs.Float.{binary32}
use Rattle.std.specs.Float.Ieee.{of_bits}
use Rattle.best_word.specs.Claim.{score_of}
use Rattle.f32s.specs.Single.{zero32}
use Rattle.forward.specs.Decode.{word, score}
use Rattle.trellis.specs.Choice.{code_of, pattern_of}
use Rattle.trellis.specs.Codeword.{steps_of, codeword}
use Rattle.trellis.specs.Keep.{coded_length}
use Rattle.trellis.specs.Standard.{standard_code}
use Rattle.varicode_reader.specs.Reader.{nothing_heard, letters_from}
use Rattle.varicode_writer.specs.Writer.{byte, stream_from}

-- a line: the coded bits of an info word at a rate; the coded lengths of an info count at the five rates; the word, and
-- the score, that readings are decoded to; two words that score the same; the bits that a fresh writer puts for a text;
-- the characters that a fresh reader takes from bits, and those that a fresh reader for pauses does
pub data SheetLine : Type 0 where
  coded : (code rate : ℕ) (info bits : List ℕ) → SheetLine
  lengths : (code count : ℕ) (at_rates : List ℕ) → SheetLine
  decodes : (code rate : ℕ) (heard : List Float) (bits : List ℕ) → SheetLine
  scores : (code rate count : ℕ) (heard : List Float) (is : Float) → SheetLine
  ties : (code rate count : ℕ) (whole : List ℤ) (u v : List ℕ) → SheetLine
  writes : (text bits : List ℕ) → SheetLine
  reads : (bits text : List ℕ) → SheetLine
  reads_pauses : (bits text : List ℕ) → SheetLine

abbrev pub Holds : SheetLine → Type 0
Holds (coded code rate info bits) = codeword (code_of code) (pattern_of code rate) info ≡ bits
Holds (lengths code count at_rates) =
    map (λ (rate : ℕ). coded_length (pattern_of code rate) (steps_of (code_of code) count)) (0 ∷ 1 ∷ 2 ∷ 3 ∷ 4 ∷ [])
    ≡ at_rates
Holds (decodes code rate heard bits) = word (code_of code) (pattern_of code rate) heard (length bits) ≡ bits
Holds (scores code rate count heard is) = score (code_of code) (pattern_of code rate) heard count ≡ is
Holds (ties code rate count whole u v) =
    score_of (code_of code) (pattern_of code rate) count u whole
    ≡ score_of (code_of code) (pattern_of code rate) count v whole
Holds (writes text bits) = stream_from true (map byte text) ≡ bits
Holds (reads bits text) = letters_from false nothing_heard bits ≡ text
Holds (reads_pauses bits text) = letters_from true nothing_heard bits ≡ text

-- every line of a list holds
pub data AllHold : List SheetLine → Type 0 where
  none : AllHold []
  more : {line : SheetLine} {lines : List SheetLine} → Holds line → AllHold lines → AllHold (line ∷ lines)

-- 1.0 and -1.0 by their bits
abbrev one : Float
one = of_bits binary32 0x3f80_0000

abbrev minus_one : Float
minus_one = of_bits binary32 0xbf80_0000

-- codes by their numbers
abbrev k5 : ℕ
k5 = 0

abbrev k7 : ℕ
k7 = 1

-- letters by their bytes
abbrev e : ℕ
e = 101

abbrev h : ℕ
h = 104

abbrev i : ℕ
i = 105

abbrev pub sheet : List SheetLine
sheet =
    coded k5 0 (1 ∷ []) (1 ∷ 1 ∷ 0 ∷ 0 ∷ 1 ∷ 0 ∷ 0 ∷ 1 ∷ 1 ∷ 1 ∷ [])
    ∷ coded k5 2 (1 ∷ []) (1 ∷ 1 ∷ 0 ∷ 0 ∷ 0 ∷ 1 ∷ 1 ∷ [])
    ∷ coded k7 0 (1 ∷ []) (1 ∷ 1 ∷ 1 ∷ 0 ∷ 1 ∷ 1 ∷ 1 ∷ 1 ∷ 0 ∷ 0 ∷ 0 ∷ 1 ∷ 1 ∷ 1 ∷ [])
    ∷ lengths k7 10 (32 ∷ 24 ∷ 22 ∷ 20 ∷ 19 ∷ [])
    ∷ lengths k5 0 (8 ∷ 6 ∷ 6 ∷ 5 ∷ 5 ∷ [])
    ∷ decodes k5 0 (minus_one ∷ []) (1 ∷ [])
    ∷ scores k5 0 1 (minus_one ∷ []) one
    ∷ decodes k5 0 (minus_one ∷ one ∷ []) (0 ∷ [])
    ∷ ties k5 0 1 (neg_ℤ (pos 1) ∷ pos 1 ∷ []) (0 ∷ []) (1 ∷ [])
    ∷ decodes k5 0 [] (0 ∷ 0 ∷ 0 ∷ [])
    ∷ scores k5 0 3 [] zero32
    ∷ writes (h ∷ i ∷ []) (1 ∷ 0 ∷ 1 ∷ 0 ∷ 1 ∷ 1 ∷ 0 ∷ 0 ∷ 1 ∷ 1 ∷ 0 ∷ 1 ∷ [])
    ∷ reads (1 ∷ 1 ∷ 0 ∷ 0 ∷ []) (e ∷ [])
    ∷ reads (0 ∷ 1 ∷ 1 ∷ 0 ∷ 0 ∷ []) []
    ∷ reads (0 ∷ 0 ∷ 1 ∷ 1 ∷ 0 ∷ 0 ∷ []) (e ∷ [])
    ∷ reads (0 ∷ 1 ∷ 0 ∷ 1 ∷ 0 ∷ 1 ∷ 0 ∷ 1 ∷ 0 ∷ 1 ∷ 1 ∷ 0 ∷ 0 ∷ []) (0 ∷ [])
    ∷ reads_pauses (0 ∷ 1 ∷ 1 ∷ 0 ∷ 0 ∷ []) (e ∷ [])
    ∷ coded standard_code 0 (1 ∷ []) (1 ∷ 1 ∷ 1 ∷ 0 ∷ 1 ∷ 1 ∷ 1 ∷ 1 ∷ 0 ∷ 0 ∷ 0 ∷ 1 ∷ 1 ∷ 1 ∷ [])
    ∷ coded standard_code 1 (1 ∷ []) (1 ∷ 1 ∷ 0 ∷ 1 ∷ 1 ∷ 1 ∷ 0 ∷ 0 ∷ 1 ∷ 1 ∷ 1 ∷ [])
    ∷ coded standard_code 2 (1 ∷ []) (1 ∷ 1 ∷ 0 ∷ 1 ∷ 1 ∷ 1 ∷ 0 ∷ 0 ∷ 1 ∷ 1 ∷ [])
    ∷ coded standard_code 3 (1 ∷ []) (1 ∷ 1 ∷ 0 ∷ 1 ∷ 1 ∷ 0 ∷ 0 ∷ 1 ∷ 1 ∷ [])
    ∷ coded standard_code 4 (1 ∷ []) (1 ∷ 1 ∷ 0 ∷ 1 ∷ 1 ∷ 0 ∷ 1 ∷ 1 ∷ [])
    ∷ lengths standard_code 10 (32 ∷ 24 ∷ 22 ∷ 20 ∷ 19 ∷ [])
    ∷ []
