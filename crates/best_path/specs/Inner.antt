-- The two new states that a pair of states leads to, over any metric. Definitions only.
use Rattle.std.specs.Prelude.{◌≡◌, ℕ, ◌+◌}
use Rattle.best_path.specs.Metric.{Metric}
use Rattle.best_path.specs.Step.{Cell, unreached, relaxed}

-- The states s and s + 1, of metrics m0 and m1. On the input 0 their branches bring x and y, on the input 1 y and x.
pub record LedTo {M B : Type 0} (op : Metric M B) (m0 m1 : M) (s : ℕ) (x y : B) (on0 on1 : Cell M) : Type 0 where
  pub low : on0 ≡ relaxed op (relaxed op (unreached op) m0 x s) m1 y (s + 1)
  pub high : on1 ≡ relaxed op (relaxed op (unreached op) m0 y s) m1 x (s + 1)
