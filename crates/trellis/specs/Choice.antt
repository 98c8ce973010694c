-- What a code number and a rate number select together: one table, an entry for each code number. Definitions only.
use Rattle.std.specs.Prelude.{Bool, List, [], ◌∷◌, ◌++◌, ℕ, ◌-◌, ltb, length, get_or, take, replicate}
use Rattle.trellis.specs.declared.ConvCode.{ConvCode}
use Rattle.trellis.specs.declared.KeepPattern.{KeepPattern}
use Rattle.trellis.specs.Keep.{Keep, period}

abbrev pub k5 : ConvCode
k5 = record { width = 4; g0 = 0b10101; g1 = 0b10011 }

-- octal 171 and 133, X and Y of ETSI EN 300 744, 4.3.3
abbrev pub k7 : ConvCode
k7 = record { width = 6; g0 = 0b1111001; g1 = 0b1011011 }

abbrev pub half : Keep
half = record { row0 = 1 ∷ []; row1 = 1 ∷ [] }

-- the keep patterns of the Rust, by the numbers of their rates: 1/2, 2/3, 3/4, 5/6, 7/8
abbrev pub rust : List Keep
rust =
    half
    ∷ record { row0 = 1 ∷ 1 ∷ []; row1 = 1 ∷ 0 ∷ [] }
    ∷ record { row0 = 1 ∷ 1 ∷ 0 ∷ []; row1 = 1 ∷ 0 ∷ 1 ∷ [] }
    ∷ record { row0 = 1 ∷ 1 ∷ 0 ∷ 1 ∷ 0 ∷ []; row1 = 1 ∷ 0 ∷ 1 ∷ 0 ∷ 1 ∷ [] }
    ∷ record { row0 = 1 ∷ 1 ∷ 1 ∷ 1 ∷ 0 ∷ 1 ∷ 0 ∷ []; row1 = 1 ∷ 0 ∷ 0 ∷ 0 ∷ 1 ∷ 0 ∷ 1 ∷ [] }
    ∷ []

-- those of EN 300 744, by the same numbers, as its table has them: the row of X is G0's, that of Y is G1's
abbrev pub standard : List Keep
standard =
    half
    ∷ record { row0 = 1 ∷ 0 ∷ []; row1 = 1 ∷ 1 ∷ [] }
    ∷ record { row0 = 1 ∷ 0 ∷ 1 ∷ []; row1 = 1 ∷ 1 ∷ 0 ∷ [] }
    ∷ record { row0 = 1 ∷ 0 ∷ 1 ∷ 0 ∷ 1 ∷ []; row1 = 1 ∷ 1 ∷ 0 ∷ 1 ∷ 0 ∷ [] }
    ∷ record { row0 = 1 ∷ 0 ∷ 0 ∷ 0 ∷ 1 ∷ 0 ∷ 1 ∷ []; row1 = 1 ∷ 1 ∷ 1 ∷ 1 ∷ 0 ∷ 1 ∷ 0 ∷ [] }
    ∷ []

-- what a code number selects: a code, and for each rate number a keep pattern
pub record Coding : Type 0 where
  pub code : ConvCode
  pub patterns : List Keep

-- the table
abbrev pub codings : List Coding
codings =
    record { code = k5; patterns = rust }
    ∷ record { code = k7; patterns = rust }
    ∷ record { code = k7; patterns = standard }
    ∷ []

-- its entry of a code number, K5's where the number is no code's
unfoldable pub coding_of : ℕ → Coding
coding_of code = get_or codings code (record { code = k5; patterns = rust })

unfoldable pub code_of : ℕ → ConvCode
unfolding coding_of
code_of code = (coding_of code).code

-- of a list of keep patterns that of a rate number, and 1/2's where the number is no rate's
unfoldable pub pattern_in : List Keep → ℕ → Keep
pattern_in patterns rate = get_or patterns rate half

unfoldable pub pattern_of : (code rate : ℕ) → Keep
unfolding coding_of pattern_in
pattern_of code rate = pattern_in (coding_of code).patterns rate

-- how many codes there are, and how many rates a code has; their numbers count from 0
abbrev pub codes : ℕ
codes = length codings

unfoldable pub rates_of : ℕ → ℕ
unfolding coding_of
rates_of code = length (coding_of code).patterns

abbrev pub known_code : ℕ → Bool
known_code code = ltb code codes

abbrev pub known_rate : (code rate : ℕ) → Bool
known_rate code rate = ltb rate (rates_of code)

abbrev to_seven : List ℕ → List ℕ
to_seven row = row ++ replicate (7 - length row) 0

-- A keep pattern as the code holds it: rows of seven columns, zeros behind those of the pattern.
unfoldable pub held_of : Keep → KeepPattern
held_of p = record { period = period p; row0 = to_seven p.row0; row1 = to_seven p.row1 }

-- and back: of the rows of seven, the columns that count
unfoldable pub keep_of : KeepPattern → Keep
keep_of m = record { row0 = take m.period m.row0; row1 = take m.period m.row1 }
