-- The f32s of a slice of f32s and, behind them, of a slice of bytes, as one. Definitions only.
use Rattle.std.specs.Prelude.{List, Float}
use Rattle.f32s.specs.declared.Readings.{Readings}
use Rattle.f32s.specs.Single.{values_in}

abbrev pub values_of : Readings → List Float
values_of readings = values_in readings.floats.now readings.bytes.now
