-- A decoder fed a list of symbols, one after the other: the state after them, and the bits that came out. The list
-- stands last one first. A flush is such a list: as many symbols (0, 0) as the lag. Over any code and lag. Definitions
-- only.
use Rattle.std.specs.Prelude.{List, [], ◌∷◌, ◌++◌, ℕ, Float, replicate}
use Rattle.f32s.specs.Single.{zero32}
use Rattle.trellis.specs.declared.ConvCode.{ConvCode}
use Rattle.streaming.specs.Stream.{State, fed, given}

pub record Symbol : Type 0 where
  pub re : Float
  pub im : Float

-- what a flush feeds
abbrev pub nought : Symbol
nought = record { re = zero32; im = zero32 }

module _ (code : ConvCode) (lag : ℕ) (st : State) where
  unfoldable pub after : List Symbol → State
  unfolding fed
  after [] = st
  after (x ∷ earlier) = fed code lag (after earlier) x.re x.im

  unfoldable pub run_gives : List Symbol → List ℕ
  unfolding after given
  run_gives [] = []
  run_gives (x ∷ earlier) = run_gives earlier ++ given code lag (after (x ∷ earlier))

  -- the state after a flush, and its bits
  unfoldable pub flushed : State
  unfolding after
  flushed = after (replicate lag nought)

  unfoldable pub flush_gives : List ℕ
  unfolding run_gives
  flush_gives = run_gives (replicate lag nought)
