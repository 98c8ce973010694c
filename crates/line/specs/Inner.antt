-- What the inner functions ask and ensure. Definitions only.
use Rattle.std.specs.Prelude.{List, [], ◌≡◌, ℕ, Float, Result, MatchResult}
use Rattle.refusal.specs.declared.Refusal.{Refusal}
use Rattle.refusal.specs.Answer.{Said, refused, number_of, place_of}
use Rattle.line.specs.Line.{line_of, output}
use Rattle.line.specs.Promise.{Prints}

-- what a refusal says
abbrev pub refusal_said : Refusal → Said Float
refusal_said r = refused (number_of r) (place_of r)

-- `refused_line`, `word_line`: the line of an answer
abbrev pub PrintsAnswer : Said Float → (word printed : List ℕ) → Type 0
PrintsAnswer said word printed = Prints (line_of said word) printed

-- `decoded_line`: the whole output where the input is accepted, else the refusal whose line is the whole output
abbrev pub DecodesInput : (input : List ℕ) → Result (List ℕ) Refusal → Type 0
DecodesInput input r =
    MatchResult r (λ printed. Prints (output input) printed)
    (λ refusal. output input ≡ line_of (refusal_said refusal) [])
