-- Floats that are whole numbers: `Whole x z` says that x is finite and that its value is the integer z; `float_of z` is
-- the f32 of z. Definitions only.
use Rattle.std.specs.Prelude.{Bool, cond, ◌≡◌, ℕ, ◌*◌, ℤ, pos, neg_ℤ, ◌*ℤ◌, Float}
use Rattle.std.specs.Float.{nan, inf, fin, binary32}
use Rattle.std.specs.Float.Ieee.{up, down, of_int}

-- n, or -n where the sign is set
abbrev pub with_sign : Bool → ℕ → ℤ
with_sign s n = cond s (neg_ℤ (pos n)) (pos n)

-- the value ±m * up e / down e is z, said without the division; either zero is 0
abbrev pub IsWhole : Float → ℤ → Type 0
IsWhole nan z = ⊥
IsWhole (inf s) z = ⊥
IsWhole (fin s m e) z = with_sign s (m * up e) ≡ z *ℤ pos (down e)

-- the same as a record, so that laws can leave x and z implicit
pub record Whole (x : Float) (z : ℤ) : Type 0 where
  pub value : IsWhole x z

-- the f32 of a whole number: exact within ±2^24, and of 0 it is +0.0
abbrev pub float_of : ℤ → Float
float_of z = of_int binary32 z
