-- What a decoder of readings answers crosses a door, if its score's number is below 2^32. For any kind of decoder. Assumes
-- nothing.
use mathlib.Core.Bool.{Bool}
use mathlib.Core.List.{List}
use Prim.Native.Nat.{ℕ, ◌^◌, ◌≤◌, ◌<◌}
use native.Mathlib.Nat.{min-le_left}
use native.Mathlib.Omega.{arith}
use lib.Dec.{ltb}
use lib.ListN.{length, take, length-take}
use Rattle.encoder.specs.Encode.{coded_length_of}
use Rattle.encoder.proofs.Crosses.{crosses_checked, length-below}
use Rattle.refusal.specs.Answer.{accepted}
use Rattle.refusal.specs.Limits.{most}
use Rattle.refusal.specs.Numbers.{short_output, short_scratch}
use Rattle.refusal.proofs.Doors.{Crosses, small, crosses_unless, crosses_at_bad}
use Rattle.correlation.specs.Amounts.{survivors_of}
use Rattle.correlation.specs.Said.{answered}

pub answered_crosses :
    {A S : Type 0} (value : S → ℕ) (bad_number : ℕ) (is_good : A → Bool) (code rate info : ℕ) (readings : List A)
    (room scratch : ℕ) (score : S) → 0 < bad_number → (info ≤ most → value score < 2 ^ 32) →
    Crosses value (answered bad_number is_good code rate info readings room scratch score)
unfolding answered
answered_crosses value bad_number is_good code rate info readings room scratch score some below =
    let used = take (coded_length_of code rate info) readings in
    let few_used : info ≤ most → length used < 2 ^ 32 =
    λ few. omega (
      arith,
      length-take (coded_length_of code rate info) readings,
      min-le_left (coded_length_of code rate info) (length readings),
      length-below code rate info few,
    ) in
    crosses_checked value code rate info _
    (λ few. crosses_unless value (ltb room info) short_output _ (omega arith)
    (λ _. crosses_unless value (ltb scratch (survivors_of code info)) short_scratch _ (omega arith)
    (λ _. crosses_at_bad value bad_number is_good used (accepted score) some (few_used few) (small (below few)))))
