-- What the entry promises, and its door. `Answers` is how the caller reads the answer, `out` and `scratch` the lent
-- buffers. Definitions only.
use Rattle.std.specs.Prelude.{List, ℕ, ℤ, length}
use Rattle.correlation.specs.Promise as any
use Rattle.correlation.specs.Whole.{exactly}
use Rattle.refusal.specs.Answer.{Said}
use Rattle.refusal.specs.Lent.{Lent}
use Rattle.signed_readings.specs.Said.{decode_said}

-- `viterbi_decode_signed_with`: the word goes to `out`, the survivor numbers of all steps to `scratch`, by the decoder
-- in whole numbers
abbrev pub Decodes : (Said ℤ → Type 0) → (code rate info : ℕ) → List ℤ → (out scratch : Lent ℕ) → Type 0
Decodes Answers code rate info readings out scratch =
    any.Decodes exactly Answers (decode_said code rate info readings (length out.given) (length scratch.given))
    code rate info readings out scratch
