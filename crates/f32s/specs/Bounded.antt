-- Floats between two bounds: `Between a b j x` says that x is a number from -a * 2 ^ j up to b * 2 ^ j, and `UpTo q j
-- x` that it is one from 0 up to q * 2 ^ j. Definitions only.
use Rattle.std.specs.Prelude.{cond, ℕ, ◌*◌, ◌^◌, ◌≤◌, Float}
use Rattle.std.specs.Float.{nan, inf, fin}
use Rattle.std.specs.Float.Ieee.{up, down}

-- the size m * up e / down e is at most the bound on its side, said without the division; either zero is 0
abbrev pub LiesBetween : (a b j : ℕ) → Float → Type 0
LiesBetween a b j nan = ⊥
LiesBetween a b j (inf s) = ⊥
LiesBetween a b j (fin s m e) = m * up e ≤ cond s a b * 2 ^ j * down e

-- the same as a record, so that laws can leave the bounds and x implicit
pub record Between (a b j : ℕ) (x : Float) : Type 0 where
  pub lies : LiesBetween a b j x

abbrev pub UpTo : (q j : ℕ) → Float → Type 0
UpTo q j x = Between 0 q j x
