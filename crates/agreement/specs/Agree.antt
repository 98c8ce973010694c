-- The block decoder of readings in f32 and that of signed bytes, on the same numbers. Definitions only.
use Rattle.std.specs.Prelude.{List, map, ◌≡◌, ℕ, ◌^◌, ◌≤◌, ◌<◌, Float, ℤ, pos, nat_abs, get_or, Result}
use Rattle.std.specs.Int.Signed.{mag}
use Rattle.correlation.specs.Decode as any
use Rattle.correlation.specs.Whole.{exactly}
use Rattle.encoder.specs.Encode.{coded_length_of}
use Rattle.f32s.specs.Whole.{float_of}
use Rattle.forward.specs.Sums.{soft}
use Rattle.readings.specs.Said as readings
use Rattle.refusal.specs.declared.Refusal.{Refusal}
use Rattle.refusal.specs.Answer.{answer_said, said_as}
use Rattle.refusal.specs.Lent.{leaves}
use Rattle.signed_readings.specs.Said as signed_readings
use Rattle.trellis.specs.Choice.{code_of, pattern_of}
use Rattle.trellis.specs.Codeword.{steps_of}

-- the same numbers as f32s
abbrev pub floats_of : List ℤ → List Float
floats_of zs = map float_of zs

-- signed bytes: from −128 to 127
pub record SignedBytes (zs : List ℤ) : Type 0 where
  pub each : (i : ℕ) → mag (get_or zs i (pos 0)) < 2 ^ 7

-- Each used reading is from −127 to 127: of signed bytes none is −128. Where the list is shorter, what is missing is
-- 0.
pub record InRange (code rate info : ℕ) (zs : List ℤ) : Type 0 where
  pub each : (i : ℕ) → i < coded_length_of code rate info → nat_abs (get_or zs i (pos 0)) ≤ 127

-- The two decoders agree: whatever room there is, they answer the same, the score as the f32 of the whole number, bit
-- for bit, and they leave the same in the output and in scratch.
pub record Agree (code rate info : ℕ) (zs : List ℤ) : Type 0 where
  pub answer :
      (room scratch : ℕ) →
      readings.decode_said code rate info (floats_of zs) room scratch
      ≡ said_as float_of (signed_readings.decode_said code rate info zs room scratch)
  pub output :
      (room scratch : ℕ) (old : List ℕ) →
      leaves (readings.decode_said code rate info (floats_of zs) room scratch)
      (any.word soft (code_of code) (pattern_of code rate) (floats_of zs) info) old
      ≡ leaves (signed_readings.decode_said code rate info zs room scratch)
      (any.word exactly (code_of code) (pattern_of code rate) zs info) old
  pub survivors :
      (room scratch : ℕ) (old : List ℕ) →
      leaves (readings.decode_said code rate info (floats_of zs) room scratch)
      (any.filled_rows soft (code_of code) (pattern_of code rate) (floats_of zs) (steps_of (code_of code) info)) old
      ≡ leaves (signed_readings.decode_said code rate info zs room scratch)
      (any.filled_rows exactly (code_of code) (pattern_of code rate) zs (steps_of (code_of code) info)) old

-- Of two calls, by what each returned and what it left in the two buffers:
pub record SameOutcome
    (r : Result Float Refusal) (r' : Result ℤ Refusal) (out out' work work' : List ℕ) : Type 0 where
  pub answer : answer_said r ≡ said_as float_of (answer_said r')
  pub output : out ≡ out'
  pub scratch : work ≡ work'
