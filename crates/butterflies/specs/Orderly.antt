-- An order of f32 metrics: a metric stands for itself, any has room for more, and a state that was not reached sends a
-- NaN. What such an order is asked, so that a branch needs no test of its own. Definitions only.
use Rattle.std.specs.Prelude.{false, cond, ◌≡◌, ℕ, Float}
use Rattle.std.specs.Float.{binary32, nan}
use Rattle.std.specs.Float.Ieee.{add}
use Rattle.best_path.specs.Metric.{Metric}
use Rattle.best_path.specs.Pair.{Held}
use Rattle.best_path.proofs.Candidates.{Strict}

abbrev pub floats_held : Metric Float Float → Held Float
floats_held op =
    record {
      Value = Float;
      value = λ (m : Float). m;
      op = op;
      better = op.better;
      candidate = λ (m x : Float). add binary32 (cond (op.better m op.mark) m nan) x;
      Small = λ (x : Float). Unit {0};
      Near = λ (bound : ℕ) (m : Float). Unit {0};
      limit = 0;
      reach = 0;
    }

pub record Orderly (op : Metric Float Float) : Type 0 where
  -- better is transitive, and the mark is not better than itself
  pub strict : Strict op
  -- a sum is an f32 sum, and never better where a NaN is added to
  pub adds : (m c : Float) → op.add m c ≡ add binary32 m c
  pub never : (x c : Float) → op.better (op.add nan c) x ≡ false
  -- what is better than the mark is reached; of a NaN it does not matter
  pub tested : (m : Float) → cond (op.better m op.mark) m nan ≡ cond (op.reached m) m nan
