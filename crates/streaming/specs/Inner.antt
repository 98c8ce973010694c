-- What the inner functions ask and ensure. Definitions only.
use Rattle.std.specs.Prelude.{◌≡◌, ℕ, Float, Option, Result}
use Rattle.refusal.specs.declared.Answered.{Answered}
use Rattle.refusal.specs.declared.Refusal.{Refusal}
use Rattle.refusal.specs.Answer.{Says}
use Rattle.refusal.specs.Lent.{Lent}
use Rattle.trellis.specs.Choice.{k5}
use Rattle.streaming_steps.specs.declared.Front.{Front}
use Rattle.streaming_steps.specs.Steps.{lag}
use Rattle.streaming.specs.Stream.{fed}
use Rattle.streaming.specs.Said.{Emits}
use Rattle.streaming.specs.Decoder.{state_of}
use Rattle.streaming.specs.Promise.{Feeds, Flushes}

-- `advance`: the front r and the history are the state after the symbol
pub record Advances (front : Front) (re im : Float) (r : Front) (history : Lent ℕ) : Type 0 where
  pub state : state_of r history.left ≡ fed k5 lag (state_of front history.given) re im

-- `feed_lent`, `flush_lent`: the promises of the entries, of a front and a history
abbrev pub FeedsLent :
    Front → (re im : Float) → Answered (Result (Option ℕ) Refusal) Front → (history : Lent ℕ) → Type 0
FeedsLent front re im r history =
    Feeds (Emits r.answer) (state_of front history.given) (state_of r.coder history.left) re im

abbrev pub FlushesLent : Front → Answered (Result ℕ Refusal) Front → (history out : Lent ℕ) → Type 0
FlushesLent front r history out =
    Flushes (Says r.answer) (state_of front history.given) (state_of r.coder history.left) out
