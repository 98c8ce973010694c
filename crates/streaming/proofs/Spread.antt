-- How far the metrics lie apart. Along a way out of a least state each step adds at most what a branch costs, and no metric
-- goes below that least. So after as many steps as the register has cells every state is reached, and all metrics lie close
-- together. Assumes nothing.
use mathlib.Core.Bool.{true, false}
use mathlib.Core.List.{List}
use mathlib.Core.Logic.{inl, inr}
use mathlib.Core.Path.{◌≡◌, sym, ap, ◌∙◌}
use Prim.Native.Nat.{ℕ, suc, ◌+◌, ◌*◌, ◌^◌, ◌≤◌, ◌<◌}
use native.Mathlib.Nat.{add-zero}
use native.Mathlib.Omega.{arith}
use lib.Ieee.{Float, lt}
use lib.ListN.{length, get_or}
use Rattle.f32s.specs.Bounded.{UpTo}
use Rattle.f32s.specs.Single.{within}
use Rattle.f32s.proofs.Ranges.{Range, from_not_below, from_zero, bounds_ordered, floored}
use Rattle.butterflies.specs.Smallest.{mark, smallest}
use Rattle.symbols.proofs.Bounds.{MarkOrUpTo, up_to_below, reached_up_to}
use Rattle.trellis.specs.declared.ConvCode.{ConvCode}
use Rattle.streaming.proofs.Least.{Found, least_not_above, least_is_one}
use Rattle.streaming.proofs.Plain.{dearest, scale, exact, MarkOrRange, reached_range, no_more, next, next_range, next_led}
use Rattle.streaming.proofs.Way.{way, way_input, way_below, way_input_lem, way_starts, way_next, way_ends}

-- After j steps: every metric is the mark or from `low` up to q, in multiples of 2 ^ 13. At first the state `source` had at
-- most one more than `low`, so on every way out of it there is at most what j branches cost on top of that.
pub record Spread (code : ConvCode) (q j : ℕ) (mets : List Float) : Type 0 where
  pub low : ℕ
  pub source : ℕ
  pub source_below : source < 2 ^ code.width
  pub low_few : low + dearest * j ≤ q
  pub all : (s : ℕ) → s < 2 ^ code.width → MarkOrRange low q (get_or mets s mark)
  pub led : (n : ℕ) → UpTo (suc low + dearest * j) scale (get_or mets (way code source n j) mark)

-- at any time, where some state is reached: from a least one
module _ (code : ConvCode) (q : ℕ) (mets : List Float) (bounded : (s : ℕ) → s < 2 ^ code.width → MarkOrUpTo q (get_or mets s mark)) where
  abbrev met_at : ℕ → Float
  met_at s = get_or mets s mark

  from_zero_on : {m : Float} → MarkOrUpTo q m → MarkOrRange 0 q m
  from_zero_on (inl e) = inl e
  from_zero_on (inr u) = inr (from_zero scale u)

  from_low_on : {m l : Float} {p r : ℕ} → Range p r scale l → lt m l ≡ false → MarkOrUpTo q m → MarkOrRange p q m
  from_low_on v h (inl e) = inl e
  from_low_on v h (inr u) = inr (from_not_below scale u v h)

  spread_from :
      (s low : ℕ) → s < 2 ^ code.width → ((t : ℕ) → t < 2 ^ code.width → lt (met_at t) (met_at s) ≡ false) → UpTo q scale (met_at s) →
      Range low (suc low) scale (met_at s) → Spread code q 0 mets
  spread_from s low h least u v =
      let low_few = bounds_ordered scale (from_not_below scale u v (least s h)) in
      record {
        low = low;
        source = s;
        source_below = h;
        low_few = omega arith;
        all = λ t g. from_low_on v (least t g) (bounded t g);
        led = λ n. rw (way_starts code s n h, add-zero (suc low)) v.up_to;
      }

  pub spread_starts : (s : ℕ) → s < 2 ^ code.width → smallest.reached (met_at s) ≡ true → Spread code q 0 mets
  spread_starts s h r = go (least_is_one mets (2 ^ code.width) s h r)
    where
      go : Found mets (2 ^ code.width) → Spread code q 0 mets
      go f =
          let least : (t : ℕ) → t < 2 ^ code.width → lt (met_at t) (met_at f.at) ≡ false =
          λ t g. ap (lt (met_at t)) (sym f.is_least) ∙ least_not_above mets (2 ^ code.width) t g in
          let u = no_more (reached_up_to (bounded s h) r) r (from_zero_on (bounded f.at f.at_below)) (least s h) in
          spread_from f.at (floored scale u).0 f.at_below least u (floored scale u).1

pub spread_steps :
    (code : ConvCode) → 0 < code.width → (re im : Float) → within re ≡ true → within im ≡ true → (q j : ℕ) (mets : List Float) →
    2 ^ code.width ≤ length mets →
    q + 1 + dearest ≤ exact → Spread code q j mets → Spread code (q + dearest) (suc j) (next code re im mets)
spread_steps code some re im re_in im_in q j mets room few v =
    let low = v.low in
    let at = way code v.source in
    let more : suc low + dearest * suc j ≡ suc low + dearest * j + dearest = omega arith in
    let led : (n : ℕ) → UpTo (suc low + dearest * j + dearest) scale (get_or (next code re im mets) (at n (suc j)) mark) =
    λ n.
    rw (← way_next code some v.source n j)
    (next_led code some re im re_in im_in mets room low q (suc low + dearest * j) (at n j) (way_input code v.source n j)
    (omega arith) v.all (way_below code v.source n j) (way_input_lem code v.source n j)
    (rw (way_next code some v.source n j) (way_below code v.source n (suc j)))
    (omega arith) (v.led n)) in
    record {
      low = low;
      source = v.source;
      source_below = v.source_below;
      low_few = omega arith;
      all = next_range code some re im re_in im_in mets room low q (omega arith) v.all;
      led = λ n. rw more (led n);
    }

pub spread_reaches :
    (code : ConvCode) (q j : ℕ) (mets : List Float) → q + 1 ≤ exact → (v : Spread code q j mets) (n : ℕ) →
    smallest.reached (get_or mets (way code v.source n j) mark) ≡ true
spread_reaches code q j mets few v n = up_to_below (omega arith) (v.led n)

-- all cells of the register replaced
pub spread_ends :
    (code : ConvCode) (q : ℕ) (mets : List Float) → q + 1 ≤ exact → (v : Spread code q code.width mets) (s : ℕ) → s < 2 ^ code.width →
    Range v.low (suc v.low + dearest * code.width) scale (get_or mets s mark)
spread_ends code q mets few v s h =
    let there = way_ends code v.source s v.source_below h in
    let reached = rw there at (spread_reaches code q code.width mets few v s) in
    record { from = (reached_range (v.all s h) reached).from; up_to = rw there at (v.led s) }
