-- The door's number tells its answer: read as the host reads it (`door_read`), it is what the entry says; and so the score's bits
-- tell the score. Of readings that are signed bytes. Assumes nothing.
use mathlib.Core.List.{List}
use mathlib.Core.Path.{◌≡◌}
use Prim.Native.Nat.{ℕ, ◌^◌, ◌≤◌, ◌<◌}
use native.Mathlib.Omega.{arith}
use lib.IntN.{ℤ, pos, nat_abs}
use lib.ListN.{get_or}
use Rattle.correlation.proofs.Crosses.{answered_crosses}
use Rattle.refusal.specs.Answer.{door_number, door_read}
use Rattle.refusal.specs.Limits.{most}
use Rattle.refusal.proofs.Doors.{value_tells}
use Rattle.signed_answers.specs.Answer.{twos_complement, read_signed, score_bits}
use Rattle.signed_answers.proofs.Told.{bits_below, bits_tell}
use Rattle.signed_readings.specs.Said.{score, decode_said}
use Rattle.signed_readings.proofs.Sums.{score_within, limit_steps}
use Rattle.trellis.specs.Choice.{code_of, pattern_of}
use Rattle.trellis.proofs.Chosen.{code_narrow}

module _ (code rate info : ℕ) (readings : List ℤ) (bytes : (i : ℕ) → nat_abs (get_or readings i (pos 0)) ≤ 128) where
  score_small : info ≤ most → nat_abs (score (code_of code) (pattern_of code rate) readings info) < 2 ^ 31
  score_small few =
      omega (
        arith,
        score_within (code_of code) (code_narrow code).some (pattern_of code rate) readings 128 info bytes,
        limit_steps code info few,
      )

  pub decode_signed_tells :
      (room scratch : ℕ) →
      door_read (door_number (score_bits (decode_said code rate info readings room scratch)))
      ≡ score_bits (decode_said code rate info readings room scratch)
  decode_signed_tells room scratch =
      value_tells twos_complement _
      (answered_crosses twos_complement _ _ code rate info readings room scratch _ (omega arith)
      (λ few. bits_below _ (score_small few)))

  pub score_read :
      info ≤ most →
      read_signed (twos_complement (score (code_of code) (pattern_of code rate) readings info))
      ≡ score (code_of code) (pattern_of code rate) readings info
  score_read few = bits_tell _ (score_small few)
