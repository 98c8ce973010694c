-- The metric of the decoders of symbols: f32 costs, of which the smaller wins. Definitions only.
use Rattle.std.specs.Prelude.{Float}
use Rattle.std.specs.Float.{binary32}
use Rattle.std.specs.Float.Ieee.{of_bits, add, lt}
use Rattle.best_path.specs.Metric.{Metric}

-- the mark of a state that is not reached: f32::MAX / 2
abbrev pub mark : Float
mark = of_bits binary32 0x7eff_ffff

-- A state is reachable when its metric is below the mark, and skipped where it is not; only a strictly smaller
-- candidate replaces.
abbrev pub smallest : Metric Float Float
smallest =
    record {
      mark = mark;
      reached = λ (m : Float). lt m mark;
      add = λ (m c : Float). add binary32 m c;
      better = λ (x y : Float). lt x y;
    }
