-- The numbers by which a call names a code and a rate. Definitions only.
use Rattle.std.specs.Prelude.{true, false, ◌≡◌, ℕ, Result, MatchResult}
use Rattle.trellis.specs.declared.Code.{Code}
use Rattle.trellis.specs.declared.Code.TheVariants.{K5, K7, En300744}
use Rattle.trellis.specs.declared.Rate.{Rate}
use Rattle.trellis.specs.declared.Rate.TheVariants.{R1_2, R2_3, R3_4, R5_6, R7_8}
use Rattle.trellis.specs.declared.UnknownCode.{UnknownCode}
use Rattle.trellis.specs.declared.UnknownRate.{UnknownRate}
use Rattle.trellis.specs.Choice.{known_code, known_rate}

-- the number of a code
abbrev pub code_number : Code → ℕ
code_number K5 = 0
code_number K7 = 1
code_number En300744 = 2

-- the number of a rate, which it has with each code
abbrev pub rate_number : Rate → ℕ
rate_number R1_2 = 0
rate_number R2_3 = 1
rate_number R3_4 = 2
rate_number R5_6 = 3
rate_number R7_8 = 4

-- a number that the table knows, and its code
pub record NumberOfCode (number : ℕ) (code : Code) : Type 0 where
  pub numbered : code_number code ≡ number
  pub known : known_code number ≡ true

-- a number that the table does not know, and the error that names it
pub record NumberOfNoCode (number : ℕ) (e : UnknownCode) : Type 0 where
  pub named : e.number ≡ number
  pub unknown : known_code number ≡ false

abbrev pub NamesCode : ℕ → Result Code UnknownCode → Type 0
NamesCode number r = MatchResult r (NumberOfCode number) (NumberOfNoCode number)

-- the same of rates, which are those of every code
pub record NumberOfRate (number : ℕ) (rate : Rate) : Type 0 where
  pub numbered : rate_number rate ≡ number
  pub known : (code : ℕ) → known_rate code number ≡ true

pub record NumberOfNoRate (number : ℕ) (e : UnknownRate) : Type 0 where
  pub named : e.number ≡ number
  pub unknown : (code : ℕ) → known_rate code number ≡ false

abbrev pub NamesRate : ℕ → Result Rate UnknownRate → Type 0
NamesRate number r = MatchResult r (NumberOfRate number) (NumberOfNoRate number)
