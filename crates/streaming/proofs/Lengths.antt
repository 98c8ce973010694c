-- The count in a flush's accepted answer is how many bits it writes. Assumes nothing.
use mathlib.Core.Path.{◌≡◌}
use Prim.Native.Nat.{ℕ}
use lib.Dec.{ltb}
use lib.ListN.{length}
use Rattle.refusal.specs.Answer.{accepted}
use Rattle.refusal.specs.Numbers.{short_output}
use Rattle.refusal.proofs.Told.{accepted_past, accepted_told}
use Rattle.trellis.specs.declared.ConvCode.{ConvCode}
use Rattle.streaming.specs.Stream.{State}
use Rattle.streaming.specs.Run.{flush_gives}
use Rattle.streaming.specs.Said.{flush_said}

pub flush_count :
    (code : ConvCode) (lag : ℕ) (st : State) (room n : ℕ) → flush_said code lag st room ≡ accepted n →
    length (flush_gives code lag st) ≡ n
unfolding flush_said
flush_count code lag st room n e =
    accepted_told _ n (accepted_past (ltb room lag) short_output (accepted (length (flush_gives code lag st))) n e)
