-- Surplus readings have no part in an answer: cut off behind those that may be used, the readings give the same answer and leave
-- the same buffers. Assumes nothing.
use mathlib.Core.List.{List}
use mathlib.Core.Path.{◌≡◌, ap, ◌∙◌}
use Prim.Native.Nat.{ℕ, ◌≤◌}
use native.Mathlib.Omega.{arith}
use lib.Ieee.{Float}
use lib.ListN.{take}
use lib.Seq.{take-take}
use Rattle.correlation.proofs.Limit.{limit_answers, limit_leaves}
use Rattle.correlation.proofs.Surplus.{rows_taken, word_taken, score_taken}
use Rattle.correlation.proofs.Used.{length-few}
use Rattle.encoder.specs.Encode.{coded_length_of}
use Rattle.f32s.specs.Single.{finite}
use Rattle.forward.specs.Decode.{word, filled_rows}
use Rattle.forward.specs.Sums.{soft}
use Rattle.refusal.specs.Answer.{Said}
use Rattle.refusal.specs.Limits.{most}
use Rattle.refusal.specs.Numbers.{bad_reading}
use Rattle.refusal.specs.Lent.{leaves}
use Rattle.trellis.specs.Choice.{code_of, pattern_of}
use Rattle.trellis.specs.Codeword.{steps_of}
use Rattle.trellis.proofs.Chosen.{rate_pattern}
use Rattle.readings.specs.Said.{most_readings, decode_said}

module _ (code rate info : ℕ) (readings : List Float) (room scratch n : ℕ) (enough : most_readings ≤ n) where
  within : info ≤ most → coded_length_of code rate info ≤ n
  within h = omega (arith, length-few code rate info h)

  abbrev said : Said Float
  said = decode_said code rate info readings room scratch

  abbrev said_of_front : Said Float
  said_of_front = decode_said code rate info (take n readings) room scratch

  pub surplus_said : said_of_front ≡ said
  surplus_said =
      limit_answers bad_reading finite code rate info room scratch (take n readings) readings _ _
      (λ h. take-take (coded_length_of code rate info) n readings (within h))
      (λ h. score_taken soft (code_of code) (pattern_of code rate) (rate_pattern code rate) readings n info (within h))

  -- so what a call would write has to be the same up to the limit only
  surplus_leaves :
      (new other old : List ℕ) → (info ≤ most → new ≡ other) → leaves said_of_front new old ≡ leaves said other old
  surplus_leaves new other old same =
      ap (λ (s : Said Float). leaves s new old) surplus_said
      ∙ limit_leaves bad_reading finite code rate info room scratch readings _ new other old same

  pub surplus_output :
      (old : List ℕ) →
      leaves said_of_front (word (code_of code) (pattern_of code rate) (take n readings) info) old
      ≡ leaves said (word (code_of code) (pattern_of code rate) readings info) old
  surplus_output old =
      surplus_leaves _ _ old
      (λ h. word_taken soft (code_of code) (pattern_of code rate) (rate_pattern code rate) readings n info (within h))

  pub surplus_scratch :
      (old : List ℕ) →
      leaves said_of_front (filled_rows (code_of code) (pattern_of code rate) (take n readings) (steps_of (code_of code) info)) old
      ≡ leaves said (filled_rows (code_of code) (pattern_of code rate) readings (steps_of (code_of code) info)) old
  surplus_scratch old =
      let steps = steps_of (code_of code) info in
      surplus_leaves _ _ old
      (λ h. rows_taken soft (code_of code) (pattern_of code rate) (rate_pattern code rate) readings n steps (within h))
