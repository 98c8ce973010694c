-- One step of add-compare-select for any metric and code. `old s` is the metric of the state s before it, and
-- `gain s b` is what the branch from s on the input b brings. Definitions only.
use Rattle.std.specs.Prelude.{cond, List, get_or}
use Prim.Native.Nat.{ℕ, zero, suc, ◌+◌, ◌*◌, ◌^◌}
use Rattle.std.proofs.Math.ListN.{set, replicate}
use Rattle.trellis.specs.declared.ConvCode.{ConvCode}
use Rattle.trellis.specs.State.{next_state}
use Rattle.best_path.specs.Metric.{Metric}

-- what is known of a new state: its metric, and the state that it comes from
pub record Cell (M : Type 0) : Type 0 where
  pub met : M
  pub from : ℕ

module _ {M B : Type 0} (op : Metric M B) where
  -- no candidate has won
  abbrev pub unreached : Cell M
  unreached = record { met = op.mark; from = 0 }

  -- a candidate x from the state s, against the best so far: only a strictly better one replaces
  abbrev pub chosen : Cell M → M → ℕ → Cell M
  chosen best x s = cond (op.better x best.met) (record { met = x; from = s }) best

  -- A branch from the state s of metric m, against the best so far: a state that is not reached is skipped.
  unfoldable pub relaxed : Cell M → M → B → ℕ → Cell M
  relaxed best m g s = cond (op.reached m) (chosen best (op.add m g) s) best

  module _ (code : ConvCode) (old : ℕ → M) (gain : ℕ → ℕ → B) where
    -- ---- as it is visited

    -- the state s on the input b
    unfoldable pub visit : ℕ → ℕ → List (Cell M) → List (Cell M)
    unfolding relaxed
    visit s b cells =
        set cells (next_state code s b) (relaxed (get_or cells (next_state code s b) unreached) (old s) (gain s b) s)

    -- states upwards, input 0 before 1: after the states below s
    unfoldable pub visits : ℕ → List (Cell M)
    unfolding visit
    visits zero = replicate (2 ^ code.width) unreached
    visits (suc s) = visit s 1 (visit s 0 (visits s))

    unfoldable pub step : List (Cell M)
    unfolding visits
    step = visits (2 ^ code.width)

    -- ---- by new state

    -- the best way on the input b out of the states 2k and 2k + 1, the lower one first
    unfoldable pub best : ℕ → ℕ → Cell M
    unfolding relaxed
    best k b =
        relaxed (relaxed unreached (old (2 * k)) (gain (2 * k) b) (2 * k))
        (old (2 * k + 1)) (gain (2 * k + 1) b) (2 * k + 1)
