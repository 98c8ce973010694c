-- What a call that names a code, a rate and an info count answers crosses a door, if what it answers past these tests does.
-- Assumes nothing.
use mathlib.Core.Bool.{not}
use Prim.Native.Nat.{ℕ, ◌^◌, ◌≤◌, ◌<◌}
use native.Mathlib.Omega.{arith}
use borrow.Author.Tests.{ltb-false}
use lib.Dec.{ltb}
use Rattle.refusal.specs.Answer.{Said}
use Rattle.refusal.specs.Limits.{most}
use Rattle.refusal.specs.Numbers.{unknown_code, unknown_rate, too_many}
use Rattle.refusal.proofs.Doors.{Crosses, crosses_unless}
use Rattle.trellis.specs.Choice.{known_code, known_rate, code_of, pattern_of}
use Rattle.trellis.specs.Codeword.{steps_of}
use Rattle.trellis.proofs.Chosen.{code_narrow, rate_pattern}
use Rattle.trellis.proofs.Kept.{coded_le}
use Rattle.encoder.specs.Encode.{coded_length_of, checked}

pub crosses_checked :
    {A : Type 0} (value : A → ℕ) (code rate count : ℕ) (rest : Said A) →
    (count ≤ most → Crosses value rest) → Crosses value (checked code rate count rest)
crosses_checked value code rate count rest later =
    crosses_unless value (not (known_code code)) unknown_code _ (omega arith)
    (λ _. crosses_unless value (not (known_rate code rate)) unknown_rate _ (omega arith)
    (λ _. crosses_unless value (ltb most count) too_many rest (omega arith) (λ few. later (ltb-false most count few))))

-- two coded bits at most for each step, and no more than 16 zeros behind the info bits
pub length-below : (code rate count : ℕ) → count ≤ most → coded_length_of code rate count < 2 ^ 32
length-below code rate count few =
    omega (arith, coded_le (pattern_of code rate) (rate_pattern code rate) (steps_of (code_of code) count), (code_narrow code).narrow)
