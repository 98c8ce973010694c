-- Operations on a metric, of which the decoders' are instances: f32 sums that are to be large, f32 costs that are to
-- be small, whole numbers. Definitions only.
use Rattle.std.specs.Prelude.{Bool}

-- M is the type of the metrics, B of what a branch brings
pub record Metric (M B : Type 0) : Type 0 where
  -- what a state has that no path reaches
  pub mark : M
  -- a state that is not reached is skipped
  pub reached : M → Bool
  -- a candidate: the old metric and what the branch brings
  pub add : M → B → M
  -- is the first strictly better than the second
  pub better : M → M → Bool
