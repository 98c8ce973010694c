-- What a pair of states leads to, by metrics that are held in numbers: those stand for the metrics of the definitions.
-- Definitions only.
use Rattle.std.specs.Prelude.{Bool, cond, ◌≡◌, ℕ, ◌+◌, ◌≤◌, ◌<◌}
use Rattle.best_path.specs.Inner.{LedTo}
use Rattle.best_path.specs.Metric.{Metric}
use Rattle.best_path.specs.Step.{Cell, unreached, relaxed}
use Rattle.best_path.specs.declared.pair.NewState.{NewState}
use Rattle.best_path.specs.declared.pair.Wing.{Wing}

-- N is the type of the numbers
pub record Held (N : Type 0) : Type 1 where
  -- the metric that a number stands for, and the operations on those
  pub Value : Type 0
  pub value : N → Value
  pub op : Metric Value N
  -- is the first number better than the second; and a candidate, of a state's number and what a branch brings
  pub better : N → N → Bool
  pub candidate : N → N → N
  -- what a branch may bring
  pub Small : N → Type 0
  -- how near a number is to those that a run starts with, how far off leaves room for one more step, and how much
  -- further that takes it
  pub Near : ℕ → N → Type 0
  pub limit : ℕ
  pub reach : ℕ

module _ {N : Type 0} (held : Held N) where
  -- room for one more step
  abbrev pub Room : N → Type 0
  Room m = held.Near held.limit m

  -- a new state as the code holds it
  abbrev pub cell_held : NewState N → Cell held.Value
  cell_held z = record { met = held.value z.met; from = z.from }

  -- ---- the best way into a state

  -- the best of two candidates, the first among equals, and the state s or s + 1 that it comes from, or 0
  module _ (least floor x0 x1 : N) where
    abbrev pub first_met : N
    first_met = cond (held.better x0 least) x0 least

    abbrev pub best_met : N
    best_met = cond (held.better x1 first_met) x1 first_met

    abbrev pub best_from : ℕ → ℕ
    best_from s = cond (held.better best_met floor) (cond (held.better x1 first_met) (s + 1) s) 0

  -- what an order shows: that way is the definition's, and takes no metric too far
  pub record Sound (least floor : N) : Type 0 where
    pub led :
        (m0 m1 x y : N) (s : ℕ) → Room m0 → Room m1 → held.Small x → held.Small y →
        record {
          met = held.value (best_met least floor (held.candidate m0 x) (held.candidate m1 y));
          from = best_from least floor (held.candidate m0 x) (held.candidate m1 y) s;
        }
        ≡ relaxed held.op (relaxed held.op (unreached held.op) (held.value m0) x s) (held.value m1) y (s + 1)
    pub near :
        (bound : ℕ) → bound ≤ held.limit → (m0 m1 x y : N) → held.Near bound m0 → held.Near bound m1 → held.Small x →
        held.Small y →
        held.Near (bound + held.reach) (best_met least floor (held.candidate m0 x) (held.candidate m1 y))

  -- ---- the functions

  -- `candidate`: room for the sum
  pub record Addable (m x : N) : Type 0 where
    pub room : Room m
    pub small : held.Small x

  -- `best_of`
  pub record BestOf (least floor x0 x1 : N) (s : ℕ) (r : NewState N) : Type 0 where
    pub met : r.met ≡ best_met least floor x0 x1
    pub from : r.from ≡ best_from least floor x0 x1 s

  -- `butterfly`: room for the four sums
  pub record Summable (m0 m1 : N) (s : ℕ) (x y : N) : Type 0 where
    pub state : s < 255
    pub even : Room m0
    pub odd : Room m1
    pub first : held.Small x
    pub second : held.Small y

  -- `butterfly`: the states s and s + 1, of metrics m0 and m1, on either input; the new metrics are not much further
  -- off
  pub record Summed (m0 m1 : N) (s : ℕ) (x y : N) (r : Wing N) : Type 0 where
    pub led : LedTo held.op (held.value m0) (held.value m1) s x y (cell_held r.low) (cell_held r.high)
    pub near :
        (bound : ℕ) → bound ≤ held.limit → held.Near bound m0 → held.Near bound m1 →
        held.Near (bound + held.reach) r.low.met × held.Near (bound + held.reach) r.high.met
