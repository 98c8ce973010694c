-- The decoder in whole numbers, where nothing is rounded. Definitions only.
use Rattle.std.specs.Prelude.{ℤ, pos, neg_ℤ, ◌+ℤ◌, ◌-ℤ◌}
use Rattle.best_path.specs.Path.{Total, total, wholes}
use Rattle.correlation.specs.Arithmetic.{Arithmetic, Kind}

abbrev pub whole : Arithmetic ℤ
whole =
    record {
      zero = pos 0;
      plus = λ (a b : ℤ). a +ℤ b;
      minus = λ (a b : ℤ). a -ℤ b;
      negative = λ (a : ℤ). neg_ℤ a;
    }

-- The larger total is better, and state 0 starts at 0; a state that is not reached has none.
abbrev pub exactly : Kind ℤ Total
exactly = record { on = whole; op = wholes; first = total (pos 0) }
