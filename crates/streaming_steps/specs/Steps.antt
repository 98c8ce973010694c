-- What one symbol does to the metrics and the history, over any code: add, compare, select; normalisation; survivors
-- kept, and the way back over them. And the lag that is selected. Definitions only.
use Rattle.std.specs.Prelude.{cond, List, map, ℕ, zero, suc, ◌+◌, ◌-◌, ◌*◌, ◌%◌, eqb, Float, get_or, set}
use Rattle.std.specs.Float.{nan, binary32}
use Rattle.std.specs.Float.Ieee.{sub, lt}
use Rattle.best_path.specs.Step.{Cell, step}
use Rattle.f32s.specs.Single.{zero32}
use Rattle.butterflies.specs.Smallest.{mark, smallest}
use Rattle.symbols.specs.Costs.{costs}
use Rattle.trellis.specs.declared.ConvCode.{ConvCode}

-- how many symbols a bit comes late
abbrev pub lag : ℕ
lag = 32

-- a history of 128 rows, each written again after as many symbols
abbrev pub rows_kept : ℕ
rows_kept = 128

-- symbols from one normalisation to the next
abbrev pub turns : ℕ
turns = 256

-- the row before a row, round the end
abbrev pub row_before : ℕ → ℕ
row_before row = (row + (rows_kept - 1)) % rows_kept

-- ---- add, compare, select

module _ (code : ConvCode) (pm : List Float) (re im : Float) where
  -- one step from the metrics pm, where the symbol reads re and im
  unfoldable pub stepped : List (Cell Float)
  unfolding step costs
  stepped = step smallest code (λ (s : ℕ). get_or pm s nan) (costs code re im)

  unfoldable pub new_mets : List Float
  unfolding stepped
  new_mets = map (λ (c : Cell Float). c.met) stepped

  unfoldable pub new_froms : List ℕ
  unfolding stepped
  new_froms = map (λ (c : Cell Float). c.from) stepped

-- ---- normalisation

-- the least reachable metric of the first n, and the mark where none is reachable
unfoldable pub least_of : List Float → ℕ → Float
least_of mets zero = mark
least_of mets (suc n) = cond (lt (get_or mets n mark) (least_of mets n)) (get_or mets n mark) (least_of mets n)

-- subtracted from a metric that is reachable
abbrev pub lowered : Float → Float → Float
lowered least m = cond (smallest.reached m) (sub binary32 m least) m

-- The least reachable metric, if above 0, is subtracted from each reachable one.
unfoldable pub normalised : ℕ → List Float → List Float
unfolding least_of
normalised states mets = cond (lt zero32 (least_of mets states)) (map (lowered (least_of mets states)) mets) mets

-- when the symbols so far mod 256 were 255 before the symbol
abbrev pub normalised_at : (turn states : ℕ) → List Float → List Float
normalised_at turn states mets = cond (eqb (turn % turns) (turns - 1)) (normalised states mets) mets

-- ---- the history

-- A row from `at` on, after the states below n: the survivor of each state that a candidate won, whose metric is then
-- below the mark. Other entries keep their content.
unfoldable pub kept : List Float → List ℕ → (at n : ℕ) → List ℕ → List ℕ
kept mets froms at zero history = history
kept mets froms at (suc s) history =
    cond (smallest.reached (get_or mets s mark))
    (set (kept mets froms at s history) (at + s) (get_or froms s 0))
    (kept mets froms at s history)

-- The state n steps behind s, whose survivor stands in a row. A survivor number out of range is read modulo the number
-- of states.
unfoldable pub behind : ℕ → List ℕ → (row n s : ℕ) → ℕ
behind states history row zero s = s
behind states history row (suc n) s =
    behind states history (row_before row) n (get_or history (row * states + s) 0 % states)
