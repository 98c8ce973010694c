-- How large the sums of the decoder in whole numbers get: what a branch brings is at most the sizes of its two readings, and so
-- a total is at most two readings for each step. Over any bound on the readings. Assumes nothing.
use mathlib.Core.Bool.{Bool, true, false, cond}
use mathlib.Core.List.{List}
use mathlib.Core.Path.{◌≡◌}
use Prim.Native.Nat.{ℕ, suc, ◌+◌, ◌*◌, ◌^◌, ◌≤◌, ◌<◌}
use native.Mathlib.Nat.{mul-suc}
use native.Mathlib.Omega.{arith}
use lib.Dec.{eqb}
use lib.IntN.{ℤ, pos, neg_ℤ, nat_abs, ◌+ℤ◌, ◌-ℤ◌}
use lib.ListN.{get_or}
use Rattle.best_path.specs.Path.{Total, none, total, wholes, added, is_reached}
use Rattle.best_path.proofs.Metrics.{metric_kept}
use Rattle.best_path.proofs.Sizes.{abs_neg, abs-add}
use Rattle.best_path.proofs.Start.{started_holds}
use Rattle.trellis.specs.declared.ConvCode.{ConvCode}
use Rattle.trellis.specs.Keep.{Keep, keeps0, keeps1, coded_length}
use Rattle.trellis.specs.Places.{value_of, filled, place0, place1}
use Rattle.trellis.specs.State.{window, parity_of}
use Rattle.trellis.proofs.Kept.{one}
use Rattle.trellis.proofs.Places.{reading_value}
use Rattle.correlation.specs.Decode.{started, mets}
use Rattle.correlation.specs.Gain.{correlation, brings, read0, read1, gain}
use Rattle.correlation.specs.Whole.{whole, exactly}

-- by which of the coded bits are 0
abbrev pub signed_sum : Bool → Bool → ℤ → ℤ → ℤ
signed_sum p q a b = cond p (cond q (a +ℤ b) (a -ℤ b)) (cond q (neg_ℤ a +ℤ b) (neg_ℤ a -ℤ b))

pub correlation_size : (a b : ℤ) (c0 c1 : ℕ) → nat_abs (correlation whole a b c0 c1) ≤ nat_abs a + nat_abs b
unfolding correlation
correlation_size a b c0 c1 = go (eqb c0 0) (eqb c1 0)
  where
    go : (p q : Bool) → nat_abs (signed_sum p q a b) ≤ nat_abs a + nat_abs b
    go true true = abs-add a b
    go true false = omega (arith, abs-add a (neg_ℤ b), abs_neg b)
    go false true = omega (arith, abs-add (neg_ℤ a) b, abs_neg a)
    go false false = omega (arith, abs-add (neg_ℤ a) (neg_ℤ b), abs_neg a, abs_neg b)

pub gain_size :
    (code : ConvCode) (p : Keep) (zs : List ℤ) (t s i : ℕ) →
    nat_abs (gain whole code p zs t s i) ≤ nat_abs (read0 whole p zs t) + nat_abs (read1 whole p zs t)
unfolding gain brings
gain_size code p zs t s i =
    correlation_size (read0 whole p zs t) (read1 whole p zs t) (parity_of code.g0 (window code s i))
    (parity_of code.g1 (window code s i))

-- ---- readings of at most that size

-- a total is at most that large, if there is one
abbrev pub Within : ℕ → Total → Type 0
Within bound none = Unit
Within bound (total z) = nat_abs z ≤ bound

module _
    (code : ConvCode) (some : 0 < code.width) (p : Keep) (zs : List ℤ) (bound : ℕ)
    (each : (i : ℕ) → nat_abs (get_or zs i (pos 0)) ≤ bound) where
  filled_size : (kept : Bool) (n : ℕ) → nat_abs (value_of (pos 0) (filled kept zs n)) ≤ bound
  filled_size true n = rw (reading_value (pos 0) zs n) (each n)
  filled_size false n = omega arith

  gain_within : (t s i : ℕ) → nat_abs (gain whole code p zs t s i) ≤ 2 * bound
  unfolding place0 place1
  gain_within t s i =
      omega (
        arith,
        gain_size code p zs t s i,
        filled_size (keeps0 p t) (coded_length p t),
        filled_size (keeps1 p t) (coded_length p t + one (keeps0 p t)),
      )

  added_within :
      (t s i : ℕ) (m : Total) → Within (2 * bound * t) m → is_reached m ≡ true →
      Within (2 * bound * suc t) (added m (gain whole code p zs t s i))
  added_within t s i none h r = tt
  added_within t s i (total z) h r =
      omega (arith, h, abs-add z (gain whole code p zs t s i), gain_within t s i, mul-suc (2 * bound) t)

  pub totals_within : (t s : ℕ) → s < 2 ^ code.width → Within (2 * bound * t) (get_or (mets exactly code p zs t) s none)
  unfolding mets
  totals_within =
      metric_kept wholes code some (gain whole code p zs) (λ t. Within (2 * bound * t)) (λ t. tt)
      (λ t s i m y h r b. added_within t s i m h r) (started exactly code)
      (λ s h. started_holds wholes code (total (pos 0)) (Within (2 * bound * 0)) (omega arith) tt s)
