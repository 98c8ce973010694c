-- How the decoder holds its metrics, and what it asks of readings, in f32. Definitions only.
use Rattle.std.specs.Prelude.{true, List, ◌≡◌, ℕ, Float}
use Rattle.butterflies.specs.Largest.{largest}
use Rattle.butterflies.specs.Orderly.{floats_held}
use Rattle.correlation.specs.Inner as any
use Rattle.f32s.specs.Single.{zero32, finite}
use Rattle.steps.specs.Holding.{Holding}
use Rattle.trellis.specs.Keep.{Keep}
use Rattle.forward.specs.Sums.{floats}

-- the readings that so many steps use: each is finite
abbrev pub IsFinite : Float → Type 0
IsFinite x = finite x ≡ true

abbrev pub UsedFinite : Keep → (steps : ℕ) → List Float → Type 0
UsedFinite p steps readings = any.UsedEach IsFinite zero32 p steps readings

-- the decoder: by f32 sums, of finite readings
abbrev pub soft_held : Holding Float
soft_held = record { pair = floats_held largest; on = floats; first = zero32; Asked = IsFinite }
