-- What `viterbi_decode_soft_with` answers, for every input. Definitions only.
use Rattle.std.specs.Prelude.{List, ℕ, Float}
pub use Rattle.correlation.specs.Amounts.{most_readings, survivors_of}
use Rattle.correlation.specs.Said.{answered}
use Rattle.f32s.specs.Single.{finite}
use Rattle.forward.specs.Decode.{score}
use Rattle.refusal.specs.Answer.{Said}
use Rattle.refusal.specs.First.{refuse_at_bad}
use Rattle.refusal.specs.Numbers.{bad_reading}
use Rattle.trellis.specs.Choice.{code_of, pattern_of}

-- refused at the first reading that is NaN or infinite
abbrev pub examined : {A : Type 0} → List Float → Said A → Said A
examined used rest = refuse_at_bad bad_reading finite used rest

-- the refusals in their order, with 6 at such a reading where it is used; then the score
abbrev pub decode_said : (code rate info : ℕ) → List Float → (room scratch : ℕ) → Said Float
decode_said code rate info readings room scratch =
    answered bad_reading finite code rate info readings room scratch
    (score (code_of code) (pattern_of code rate) readings info)
