-- What the functions ensure. Definitions only.
use Rattle.std.specs.Prelude.{List, ◌++◌, ◌≡◌, ℕ, Float, length, take, drop}
use Rattle.std.specs.Int.{w32, from_le_bytes}
use Rattle.std.specs.Float.{binary32}
use Rattle.std.specs.Float.Ieee.{of_bits}
use Rattle.f32s.specs.Single.{all_of_bytes}

-- the f32 of four bytes in a list
abbrev pub of_four : List ℕ → Float
of_four bytes = of_bits binary32 (from_le_bytes w32 bytes)

-- `from_all_bytes`: as many values as there are and there is room for stand over the front of what was given
pub record Fills (bytes : List ℕ) (given left : List Float) (r : ℕ) : Type 0 where
  pub counted : r ≡ length (take (length given) (all_of_bytes bytes))
  pub front : left ≡ take (length given) (all_of_bytes bytes) ++ drop r given
