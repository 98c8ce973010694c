-- What the entries promise, by value and in place alike: each contract is one of these. `given` is the decoder's state
-- at entry and `left` the state after the call, `Answers` how the caller reads the answer (`Emits r` or `Says r`),
-- `out` the lent buffer. Definitions only.
use Rattle.std.specs.Prelude.{List, ◌≡◌, ℕ, Float, length}
use Rattle.refusal.specs.Answer.{Said}
use Rattle.refusal.specs.Lent.{Lent, Writes}
use Rattle.trellis.specs.Choice.{k5}
use Rattle.streaming_steps.specs.Steps.{lag}
use Rattle.streaming.specs.Stream.{State, fresh}
use Rattle.streaming.specs.Run.{flush_gives}
use Rattle.streaming.specs.Said.{feed_said, feed_leaves, flush_said, flush_leaves}

-- `new`: a fresh decoder
pub record Begins (left : State) : Type 0 where
  pub state : left ≡ fresh k5 lag

-- `feed_symbol`, `feed`: a bit, or nothing up to the lag; or refusal 7, which leaves the decoder as it was
pub record Feeds (Answers : Said (List ℕ) → Type 0) (given left : State) (re im : Float) : Type 0 where
  pub answer : Answers (feed_said k5 lag given re im)
  pub state : left ≡ feed_leaves k5 lag given re im

-- `flush`: the bits of as many symbols (0, 0) as the lag; or refusal 4, which leaves everything as it was
pub record Flushes (Answers : Said ℕ → Type 0) (given left : State) (out : Lent ℕ) : Type 0 where
  pub writes : Writes Answers (flush_said k5 lag given (length out.given)) (flush_gives k5 lag given) out
  pub state : left ≡ flush_leaves k5 lag given (length out.given)
