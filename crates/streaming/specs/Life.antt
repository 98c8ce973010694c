-- The life of a decoder, from a fresh one on: which calls were made, which symbols were accepted, and the state to
-- which they lead. Over any code and lag. Definitions only.
use Rattle.std.specs.Prelude.{true, cond, List, [], ◌∷◌, ◌++◌, ◌≡◌, ℕ, ltb, Float, replicate}
use Rattle.std.specs.Float.{binary32}
use Rattle.std.specs.Float.Ieee.{of_bits}
use Rattle.f32s.specs.Single.{within}
use Rattle.trellis.specs.declared.ConvCode.{ConvCode}
use Rattle.streaming.specs.Stream.{State, fresh}
use Rattle.streaming.specs.Run.{Symbol, nought, after}
use Rattle.streaming.specs.Said.{of_symbol, feed_leaves, flush_leaves}

-- ---- accepted symbols

-- accepted: neither component is NaN or beyond ±1,024
pub record Good (x : Symbol) : Type 0 where
  pub re_within : within x.re ≡ true
  pub im_within : within x.im ≡ true

abbrev pub AllGood : List Symbol → Type 0
AllGood [] = Unit
AllGood (x ∷ earlier) = Good x × AllGood earlier

-- a symbol before those that were accepted earlier, where it is accepted itself
abbrev pub joined_by : (re im : Float) → List Symbol → List Symbol
joined_by re im earlier = of_symbol re im (record { re = re; im = im } ∷ earlier) earlier earlier

-- the state after symbols, from a fresh decoder on
abbrev pub after_fresh : ConvCode → ℕ → List Symbol → State
after_fresh code lag xs = after code lag (fresh code lag) xs

-- 2^30: every reachable metric stays below it
abbrev pub metric_bound : Float
metric_bound = of_bits binary32 0x4e80_0000

-- ---- calls

-- A life that has led to a state: symbols and flushes in any order, those that are refused too.
pub data Life (code : ConvCode) (lag : ℕ) : State → Type 0 where
  begun : Life code lag (fresh code lag)
  then_fed : (st : State) (re im : Float) → Life code lag st → Life code lag (feed_leaves code lag st re im)
  then_flushed : (st : State) (room : ℕ) → Life code lag st → Life code lag (flush_leaves code lag st room)

-- the symbols that were accepted in it, last one first, those of flushes among them
unfoldable pub accepted_in : (code : ConvCode) (lag : ℕ) (st : State) → Life code lag st → List Symbol
accepted_in code lag st begun = []
accepted_in code lag st (then_fed before re im life) = joined_by re im (accepted_in code lag before life)
accepted_in code lag st (then_flushed before room life) =
    cond (ltb room lag) (accepted_in code lag before life) (replicate lag nought ++ accepted_in code lag before life)
