-- The readings that are used are finite, where none of them is NaN or infinite. Assumes nothing.
use mathlib.Core.List.{List}
use Prim.Native.Nat.{ℕ}
use native.Mathlib.Omega.{arith}
use lib.Ieee.{Float}
use lib.ListN.{length, take}
use lib.Seq.{length-take-le}
use Rattle.std.specs.Prelude.{Ok, None}
use Rattle.correlation.specs.declared.Prepared.{Prepared}
use Rattle.correlation.specs.Inner.{Prepares}
use Rattle.correlation.proofs.Used.{used_each, used_within}
use Rattle.f32s.specs.Single.{zero32, finite}
use Rattle.f32s.proofs.Patterns.{zero_finite}
use Rattle.forward.specs.Inner.{IsFinite, UsedFinite}
use Rattle.refusal.specs.First.{FindsBad}
use Rattle.refusal.proofs.FirstBad.{good_before, found_none}
use Rattle.trellis.specs.Choice.{keep_of}
use Rattle.trellis.specs.Codeword.{steps_of}

pub used_finite :
    {code rate info room scratch : ℕ} (readings : List Float) {p : Prepared} →
    Prepares code rate info (length readings) room scratch (Ok p) → FindsBad finite (take p.used readings) None →
    UsedFinite (keep_of p.chosen.keep) (steps_of p.chosen.code info) readings
used_finite {code} {rate} {info} readings {p} is found =
    used_each IsFinite zero32 code rate info readings is.ready.chosen is.ready.used zero_finite
    (λ i h.
    good_before finite zero32 (take p.used readings) i
    (omega (arith, h, found_none finite _ found, length-take-le p.used readings (used_within is.ready.used))))
