-- Readings that are whole numbers, and when an f32 metric is a total of the run in whole numbers. Definitions only.
use Rattle.std.specs.Prelude.{List, [], ◌∷◌, ◌≡◌, ℕ, ◌+◌, ◌≤◌, ◌<◌, Float, ℤ, pos, nat_abs, length, get_or}
use Rattle.std.specs.Float.{nan}
use Rattle.best_path.specs.Path.{Total, none, total}
use Rattle.f32s.specs.Whole.{Whole, float_of}
use Rattle.butterflies.specs.Largest.{mark}

-- the readings are the whole numbers zs, one by one
pub record WholeReadings (readings : List Float) (zs : List ℤ) : Type 0 where
  pub sized : length readings ≡ length zs
  pub each : (i : ℕ) → i < length zs → Whole (get_or readings i nan) (get_or zs i (pos 0))

-- the sum of the sizes of whole numbers
unfoldable pub abs_sum : List ℤ → ℕ
abs_sum [] = 0
abs_sum (z ∷ zs) = nat_abs z + abs_sum zs

-- An f32 metric is a total: the mark where there is none, else the f32 of the whole number, of a size up to the bound.
abbrev pub IsTotal : ℕ → Float → Total → Type 0
IsTotal bound x none = x ≡ mark
IsTotal bound x (total z) = (x ≡ float_of z) × (nat_abs z ≤ bound)
