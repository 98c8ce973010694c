-- The two metrics are such orders: each is strict, a sum with a NaN is never the better one, and a metric that is not
-- above the mark of sums is not reached. So the best way into a state is the definition's. Laws, which the
-- implementations in src/ cite. Assumes nothing.
use mathlib.Core.Bool.{Bool, true, false, cond}
use mathlib.Core.Path.{◌≡◌, refl, ◌∙◌}
use Prim.Native.Nat.{ℕ, ◌+◌}
use lib.Ieee.{Float, nan, inf, fin, binary32, of_bits, add, lt, le, is_nan}
use Rattle.best_path.specs.Metric.{Metric}
use Rattle.best_path.specs.Pair.{first_met, best_met, best_from, Sound}
use Rattle.best_path.specs.Step.{Cell, unreached, chosen}
use Rattle.best_path.proofs.Candidates.{Compared, any_won, none_won, pair_led}
use Rattle.f32s.proofs.Ordered.{lt_trans, lt_irrefl, lt_not_le, not_lt_le}
use Rattle.butterflies.specs.Orderly.{floats_held, Orderly}
use Rattle.butterflies.specs.Largest as larger
use Rattle.butterflies.specs.Smallest as smaller

-- ---- any such order

module _ {op : Metric Float Float} (orderly : Orderly op) where
  module _ (x0 x1 : Float) (s : ℕ) where
    abbrev z : Float
    z = first_met (floats_held op) op.mark op.mark x0 x1

    abbrev met : Float
    met = best_met (floats_held op) op.mark op.mark x0 x1

    abbrev both : Cell Float
    both = chosen op (chosen op (unreached op) x0 s) x1 (s + 1)

    compared : Compared op x0 x1 s z met (cond (op.better x1 z) (s + 1) s)
    compared = record { first = refl; second = refl; survivor = refl }

    by_any :
        (any : Bool) → op.better met op.mark ≡ any →
        record { met = met; from = cond any (cond (op.better x1 z) (s + 1) s) 0 } ≡ both
    by_any true e = any_won orderly.strict compared e
    by_any false e = none_won orderly.strict compared e

    best_chosen : record { met = met; from = best_from (floats_held op) op.mark op.mark x0 x1 s } ≡ both
    best_chosen = by_any (op.better met op.mark) refl

  orderly_sound : Sound (floats_held op) op.mark op.mark
  orderly_sound =
      record {
        led = λ m0 m1 x y s room0 room1 small_x small_y.
            let p0 = cond (op.better m0 op.mark) m0 nan in
            let p1 = cond (op.better m1 op.mark) m1 nan in
            (pair_led op nan orderly.never (orderly.tested m0) (orderly.tested m1)
            (best_chosen (add binary32 p0 x) (add binary32 p1 y) s
            ∙ rw (orderly.adds p0 x, orderly.adds p1 y) refl) refl).low;
        near = λ bound few m0 m1 x y near0 near1 small_x small_y. tt;
      }

-- ---- sums

nan_not_larger : (x c : Float) → lt x (add binary32 nan c) ≡ false
unfolding lt add
nan_not_larger nan c = refl
nan_not_larger (inf s) c = refl
nan_not_larger (fin s m e) c = refl

not_above : (m : Float) → lt larger.mark m ≡ false → nan ≡ cond ((larger.largest).reached m) m nan
unfolding is_nan of_bits le
not_above nan e = refl
not_above (inf s) e = rw (not_lt_le larger.mark (inf s) refl refl e)
not_above (fin s m d) e = rw (not_lt_le larger.mark (fin s m d) refl refl e)

above_the_mark :
    (m : Float) (above : Bool) → lt larger.mark m ≡ above → cond above m nan ≡ cond ((larger.largest).reached m) m nan
above_the_mark m true e = rw (lt_not_le larger.mark m e)
above_the_mark m false e = not_above m e

largest_orderly : Orderly larger.largest
largest_orderly =
    record {
      strict = record { trans = λ x y z h k. lt_trans z y x k h; not_itself = lt_irrefl larger.mark };
      adds = λ m c. refl;
      never = nan_not_larger;
      tested = λ m. above_the_mark m (lt larger.mark m) refl;
    }

pub largest_sound : Sound (floats_held larger.largest) larger.mark larger.mark
largest_sound = orderly_sound largest_orderly

-- ---- costs

nan_not_smaller : (x c : Float) → lt (add binary32 nan c) x ≡ false
unfolding lt add
nan_not_smaller x c = refl

smallest_orderly : Orderly smaller.smallest
smallest_orderly =
    record {
      strict = record { trans = lt_trans; not_itself = lt_irrefl smaller.mark };
      adds = λ m c. refl;
      never = nan_not_smaller;
      tested = λ m. refl;
    }

pub smallest_sound : Sound (floats_held smaller.smallest) smaller.mark smaller.mark
smallest_sound = orderly_sound smallest_orderly
