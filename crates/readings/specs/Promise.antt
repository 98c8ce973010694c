-- What the entries promise, and their door: each contract is one of these. `Answers` is how the caller reads the answer
-- (`Says r` of an entry, `ScoreNumbers r` of a door), `out` and `scratch` the lent buffers. Definitions only.
use Rattle.std.specs.Prelude.{List, ℕ, Float, length}
use Rattle.correlation.specs.Promise as any
use Rattle.f32s.specs.Single.{all_of_bytes}
use Rattle.forward.specs.Sums.{soft}
use Rattle.refusal.specs.Answer.{Said}
use Rattle.refusal.specs.Lent.{Lent}
use Rattle.readings.specs.Said.{decode_said}

-- `viterbi_decode_soft_with`: the word goes to `out`, the survivor numbers of all steps to `scratch`
abbrev pub Decodes : (Said Float → Type 0) → (code rate info : ℕ) → List Float → (out scratch : Lent ℕ) → Type 0
Decodes Answers code rate info readings out scratch =
    any.Decodes soft Answers (decode_said code rate info readings (length out.given) (length scratch.given))
    code rate info readings out scratch

-- `viterbi_decode_bytes`: the same of readings as four bytes each, low first
abbrev pub DecodesBytes :
    (Said Float → Type 0) → (code rate info : ℕ) → (bytes : List ℕ) → (out scratch : Lent ℕ) → Type 0
DecodesBytes Answers code rate info bytes out scratch = Decodes Answers code rate info (all_of_bytes bytes) out scratch
