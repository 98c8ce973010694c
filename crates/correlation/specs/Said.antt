-- What a decoder of readings answers, for every input, whatever its readings are. Definitions only.
use Rattle.std.specs.Prelude.{Bool, List, ℕ, ltb, take}
use Rattle.encoder.specs.Encode.{coded_length_of, checked}
use Rattle.refusal.specs.Answer.{Said, accepted, refuse_when}
use Rattle.refusal.specs.First.{first_bad, refuse_at_bad}
use Rattle.refusal.specs.Numbers.{short_output, short_scratch}
use Rattle.correlation.specs.Amounts.{survivors_of}

-- the refusals 1 to 5 in their order, before a call does what `rest` says
abbrev pub call_checked : {A : Type 0} → (code rate info room scratch : ℕ) → Said A → Said A
call_checked code rate info room scratch rest =
    checked code rate info
    (refuse_when (ltb room info) short_output
    (refuse_when (ltb scratch (survivors_of code info)) short_scratch
    rest))

-- The refusals in their order, the last with `number` at the first used reading that is not good; then the score.
-- Surplus readings are neither used nor examined.
unfoldable pub answered :
    {A S : Type 0} → (number : ℕ) → (is_good : A → Bool) → (code rate info : ℕ) → List A → (room scratch : ℕ) →
    S → Said S
unfolding first_bad
answered number is_good code rate info readings room scratch score =
    call_checked code rate info room scratch
    (refuse_at_bad number is_good (take (coded_length_of code rate info) readings) (accepted score))
