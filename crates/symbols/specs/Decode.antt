-- The block decoder of symbols: its word, and what it leaves in scratch. Definitions only.
use Rattle.std.specs.Prelude.{cond, List, ℕ, zero, suc, ◌+◌, ◌*◌, ◌^◌, Float, get_or}
use Rattle.std.specs.Float.{nan}
use Rattle.std.specs.Float.Ieee.{lt}
use Rattle.best_path.specs.Rows.{first_rows}
use Rattle.best_path.specs.Run.{mets_after, survivors, traced}
use Rattle.trellis.specs.declared.ConvCode.{ConvCode}
use Rattle.butterflies.specs.Smallest.{mark, smallest}
use Rattle.symbols.specs.Costs.{costs, started}

-- the first least of the states below n: state 0, moving on only to a strictly smaller metric
unfoldable pub first_least : List Float → ℕ → ℕ
first_least mets zero = 0
first_least mets (suc n) = cond (lt (get_or mets n mark) (get_or mets (first_least mets n) mark)) n (first_least mets n)

module _ (code : ConvCode) (soft : List Float) where
  -- symbol t has its re at 2t and its im behind that
  unfoldable pub symbol_costs : ℕ → ℕ → ℕ → Float
  unfolding costs
  symbol_costs t = costs code (get_or soft (2 * t) nan) (get_or soft (2 * t + 1) nan)

  -- the metrics after t symbols, and the survivors of symbol t
  unfoldable pub mets : ℕ → List Float
  unfolding mets_after symbol_costs
  mets t = mets_after smallest code symbol_costs (started code) t

  unfoldable pub froms : ℕ → List ℕ
  unfolding survivors symbol_costs
  froms t = survivors smallest code symbol_costs (started code) t

  -- traceback starts from the first least state
  unfoldable pub word : ℕ → List ℕ
  unfolding traced froms mets first_least
  word count = traced smallest code froms count (first_least (mets count) (2 ^ code.width))

  -- the survivor numbers of t symbols, row by row
  abbrev pub filled_rows : ℕ → List ℕ
  filled_rows t = first_rows froms t
