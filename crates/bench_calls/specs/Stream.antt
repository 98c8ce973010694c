-- A fresh streaming decoder fed with symbols, re and im in turn: which are accepted, and the bits that come out.
-- Definitions only.
use Rattle.std.specs.Prelude.{List, [], ℕ, zero, suc, ◌+◌, ◌*◌, ◌/◌, ltb, Float, length, get_or}
use Rattle.std.specs.Float.{nan}
use Rattle.refusal.specs.Answer.{Said, accepted, refuse_when}
use Rattle.refusal.specs.Numbers.{short_output}
use Rattle.streaming_steps.specs.Steps.{lag}
use Rattle.streaming.specs.Life.{joined_by}
use Rattle.streaming.specs.Run.{Symbol, run_gives}
use Rattle.streaming.specs.Stream.{fresh}
use Rattle.trellis.specs.Choice.{k5}

module _ (soft : List Float) where
  -- the accepted ones of the first n symbols, last one first
  unfoldable pub accepted_of : ℕ → List Symbol
  accepted_of zero = []
  accepted_of (suc n) = joined_by (get_or soft (2 * n) nan) (get_or soft (2 * n + 1) nan) (accepted_of n)

  unfoldable pub stream_gives : List ℕ
  unfolding accepted_of run_gives
  stream_gives = run_gives k5 lag (fresh k5 lag) (accepted_of (length soft / 2))

  -- how many bits came out; or refusal 4, where there is room for fewer than there are symbols
  unfoldable pub stream_said : ℕ → Said ℕ
  unfolding stream_gives
  stream_said room = refuse_when (ltb room (length soft / 2)) short_output (accepted (length stream_gives))
