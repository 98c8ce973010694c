-- The metric of the block decoder of readings: f32 sums, of which the larger wins. Definitions only.
use Rattle.std.specs.Prelude.{not, Float}
use Rattle.std.specs.Float.{binary32}
use Rattle.std.specs.Float.Ieee.{of_bits, add, lt, le}
use Rattle.best_path.specs.Metric.{Metric}

-- the mark of a state that is not reached: f32::MIN / 2
abbrev pub mark : Float
mark = of_bits binary32 0xfeff_ffff

-- A state at or below the mark is skipped; only a strictly greater candidate replaces.
abbrev pub largest : Metric Float Float
largest =
    record {
      mark = mark;
      reached = λ (m : Float). not (le m mark);
      add = λ (m c : Float). add binary32 m c;
      better = λ (x y : Float). lt y x;
    }
