-- What the answer promises. Definitions only.
use Rattle.std.specs.Prelude.{List, ◌≡◌, ℕ}
use Rattle.line.specs.Line.{output}

-- a line is seen as what was written to it: just this text
abbrev pub Prints : (text printed : List ℕ) → Type 0
Prints text printed = printed ≡ text

-- `answer`: the whole output for an input
abbrev pub AnswersInput : (input printed : List ℕ) → Type 0
AnswersInput input printed = Prints (output input) printed
