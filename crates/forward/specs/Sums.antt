-- Readings that are f32s: correlations and metrics in f32, each operation rounded once. What is defined over any
-- arithmetic is in crate `correlation`. Definitions only.
use Rattle.std.specs.Prelude.{List, ℕ, Float}
use Rattle.std.specs.Float.{binary32}
use Rattle.std.specs.Float.Ieee.{add, sub, neg}
use Rattle.butterflies.specs.Largest.{largest}
use Rattle.correlation.specs.Arithmetic.{Arithmetic, Kind}
use Rattle.correlation.specs.Gain as any
use Rattle.f32s.specs.Single.{zero32}
use Rattle.trellis.specs.declared.ConvCode.{ConvCode}
use Rattle.trellis.specs.Keep.{Keep}
use Rattle.trellis.specs.Places as places

abbrev pub floats : Arithmetic Float
floats =
    record {
      zero = zero32;
      plus = λ (a b : Float). add binary32 a b;
      minus = λ (a b : Float). sub binary32 a b;
      negative = λ (a : Float). neg a;
    }

-- The larger sum is better, and state 0 starts at 0.0.
abbrev pub soft : Kind Float Float
soft = record { on = floats; op = largest; first = zero32 }

-- deleted and missing places read 0.0
abbrev pub value_of : places.Place Float → Float
value_of place = places.value_of zero32 place

-- What the branches of step t bring, whose places read a and b: a+b, a-b, (-a)+b, (-a)-b for the coded pairs 00, 01,
-- 10, 11.
abbrev pub gain : ConvCode → Keep → List Float → ℕ → ℕ → ℕ → Float
gain code p readings t = any.gain floats code p readings t
