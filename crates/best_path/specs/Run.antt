-- Steps one after the other, and the way back, for any metric and code. `gains t s b` is what the branch of step t
-- from the state s on the input b brings. Definitions only.
use mathlib.Core.List.{List, [], ◌∷◌, ◌++◌, map}
use Prim.Native.Nat.{ℕ, zero, suc, ◌-◌, ◌/◌, ◌^◌}
use Rattle.std.proofs.Math.ListN.{get_or}
use Rattle.std.specs.Prelude.{replicate}
use Rattle.trellis.specs.declared.ConvCode.{ConvCode}
use Rattle.best_path.specs.Metric.{Metric}
use Rattle.best_path.specs.Step.{Cell, step}

module _ {M B : Type 0} (op : Metric M B) (code : ConvCode) where
  -- a step from the metrics of the states, as a list
  unfoldable pub step_from : List M → (ℕ → ℕ → B) → List (Cell M)
  unfolding step
  step_from mets gain = step op code (λ (s : ℕ). get_or mets s op.mark) gain

  -- State 0 starts at a metric; the others are not reached.
  abbrev pub started_at : M → List M
  started_at first = first ∷ replicate (2 ^ code.width - 1) op.mark

  module _ (gains : ℕ → ℕ → ℕ → B) (start : List M) where
    -- the metrics after the first t steps
    unfoldable pub mets_after : ℕ → List M
    unfolding step_from
    mets_after zero = start
    mets_after (suc t) = map (λ (c : Cell M). c.met) (step_from (mets_after t) (gains t))

    -- the survivors of step t: for each new state the state that it comes from
    unfoldable pub survivors : ℕ → List ℕ
    unfolding step_from mets_after
    survivors t = map (λ (c : Cell M). c.from) (step_from (mets_after t) (gains t))

  -- the input that leads to a state is its top bit
  abbrev pub input_into : ℕ → ℕ
  input_into s = s / 2 ^ (code.width - 1)

  -- the way back over the survivors, from the state s after t steps: the inputs of those steps, first to last
  unfoldable pub traced : (ℕ → List ℕ) → ℕ → ℕ → List ℕ
  traced froms zero s = []
  traced froms (suc t) s = traced froms t (get_or (froms t) s 0) ++ input_into s ∷ []
