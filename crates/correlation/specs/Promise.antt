-- What an entry that decodes readings promises, for any kind of decoder. `Answers` is how the caller reads the answer,
-- `out` and `scratch` the lent buffers. Definitions only.
use Rattle.std.specs.Prelude.{List, ℕ}
use Rattle.refusal.specs.Answer.{Said}
use Rattle.refusal.specs.Lent.{Lent, WritesBoth}
use Rattle.trellis.specs.Choice.{code_of, pattern_of}
use Rattle.trellis.specs.Codeword.{steps_of}
use Rattle.correlation.specs.Arithmetic.{Kind}
use Rattle.correlation.specs.Decode.{word, filled_rows}

-- the word goes to `out`, the survivor numbers of all steps to `scratch`
abbrev pub Decodes :
    {A M S : Type 0} → Kind A M → (Said S → Type 0) → Said S → (code rate info : ℕ) → List A →
    (out scratch : Lent ℕ) → Type 0
Decodes kind Answers said code rate info readings out scratch =
    WritesBoth Answers said (word kind (code_of code) (pattern_of code rate) readings info) out
    (filled_rows kind (code_of code) (pattern_of code rate) readings (steps_of (code_of code) info)) scratch
