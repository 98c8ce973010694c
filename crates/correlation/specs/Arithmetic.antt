-- The numbers that readings are, f32s or whole numbers, and the kinds of decoder of readings. Definitions only.
use Rattle.best_path.specs.Metric.{Metric}

-- how readings are added and negated
pub record Arithmetic (A : Type 0) : Type 0 where
  pub zero : A
  pub plus : A → A → A
  pub minus : A → A → A
  pub negative : A → A

-- A kind of decoder of readings: their arithmetic, the metric over them, and what state 0 starts at.
pub record Kind (A M : Type 0) : Type 0 where
  pub on : Arithmetic A
  pub op : Metric M A
  pub first : M
