-- What the costs and the metrics of symbols can come to where every component is within ±1,024: a cost is from 0 up to
-- 257 * 2 ^ 13, a metric after t symbols is the mark or from 0 up to t times that. So no branch out of a reached state comes to the
-- mark. Assumes nothing.
use mathlib.Core.Bool.{true, false, true≢false}
use mathlib.Core.List.{List}
use mathlib.Core.Logic.{◌⊎◌, inl, inr}
use mathlib.Core.Path.{◌≡◌, refl, sym, ap, ◌∙◌}
use Prim.Native.Nat.{ℕ, zero, suc, ◌+◌, ◌*◌, ◌^◌, ◌≤◌, ◌<◌, zero-le}
use native.Mathlib.Nat.{lt_of_le_of_lt, mul-le-mul_right}
use native.Mathlib.Omega.{arith}
use lib.Dec.{lit<, lit≤}
use lib.Ieee.{Float, nan, binary32, of_bits, neg, lt}
use lib.ListN.{get_or}
use Rattle.best_path.proofs.Metrics.{metric_kept}
use Rattle.best_path.proofs.Start.{started_holds}
use Rattle.f32s.specs.Bounded.{Between, UpTo}
use Rattle.f32s.specs.Single.{zero32, within}
use Rattle.f32s.proofs.Bounded.{sum_up_to, difference_square_up_to, wider_between, lt_mark}
use Rattle.f32s.proofs.Ordered.{lt_irrefl}
use Rattle.trellis.specs.declared.ConvCode.{ConvCode}
use Rattle.trellis.specs.State.{window, parity_of}
use Rattle.symbols.specs.declared.phasors.Phasor.{Phasor}
use Rattle.butterflies.specs.Smallest.{mark, smallest}
use Rattle.symbols.specs.Costs.{one32, phasors, phasor_of, cost, costs, started}
use Rattle.symbols.specs.Decode.{symbol_costs, mets}

-- ---- a cost

-- each component is from -1 up to 1
record Near (at : Phasor) : Type 0 where
  re_near : Between 1 1 0 at.re
  im_near : Between 1 1 0 at.im

phasor_near : (c0 c1 : ℕ) → Near (phasor_of c0 c1)
unfolding of_bits neg
phasor_near c0 c1 = go (2 * c0 + c1)
  where
    nil : Between 1 1 0 zero32
    nil = record { lies = zero-le }

    one : Between 1 1 0 one32
    one = record { lies = lit≤ tt }

    minus_one : Between 1 1 0 (neg one32)
    minus_one = record { lies = lit≤ tt }

    go : (i : ℕ) → Near (get_or phasors i (record { re = one32; im = zero32 }))
    go zero = record { re_near = one; im_near = nil }
    go (suc zero) = record { re_near = nil; im_near = minus_one }
    go (suc (suc zero)) = record { re_near = nil; im_near = one }
    go (suc (suc (suc zero))) = record { re_near = minus_one; im_near = nil }
    go (suc (suc (suc (suc i)))) = record { re_near = one; im_near = nil }

module _ (re im : Float) (re_in : within re ≡ true) (im_in : within im ≡ true) where
  -- two squares of at most 1,025 * 1,025 each
  near_cost : (at : Phasor) → Near at → UpTo 257 13 (cost re im at)
  unfolding cost
  near_cost at near =
      let across = difference_square_up_to re re_in near.re_near in
      let up = difference_square_up_to im im_in near.im_near in
      wider_between (sum_up_to binary32 0 (lit≤ tt) across up (lit≤ tt)) zero-le (lit≤ tt)

  pub cost_bounded : (c0 c1 : ℕ) → UpTo 257 13 (cost re im (phasor_of c0 c1))
  cost_bounded c0 c1 = near_cost (phasor_of c0 c1) (phasor_near c0 c1)

  pub branch_bounded : (code : ConvCode) (s i : ℕ) → UpTo 257 13 (costs code re im s i)
  unfolding costs
  branch_bounded code s i = cost_bounded (parity_of code.g0 (window code s i)) (parity_of code.g1 (window code s i))

-- ---- the mark, or a number far below it

abbrev pub MarkOrUpTo : ℕ → Float → Type 0
MarkOrUpTo q m = (m ≡ mark) ⊎ UpTo q 13 m

pub mark_unreached : smallest.reached mark ≡ false
mark_unreached = lt_irrefl mark

pub up_to_below : {q : ℕ} {m : Float} → q ≤ 2 ^ 24 → UpTo q 13 m → lt m mark ≡ true
up_to_below few u = lt_mark u (lt_of_le_of_lt (mul-le-mul_right (2 ^ 13) few) (lit< tt))

pub reached_up_to : {q : ℕ} {m : Float} → MarkOrUpTo q m → smallest.reached m ≡ true → UpTo q 13 m
reached_up_to (inl e) r = absurd (true≢false (sym r ∙ ap (λ (x : Float). lt x mark) e ∙ mark_unreached))
reached_up_to (inr u) r = u

-- ---- the metrics

-- the metric of the state s after t symbols
abbrev pub metric_at : ConvCode → List Float → ℕ → ℕ → Float
metric_at code soft t s = get_or (mets code soft t) s mark

pub started_bounded : (code : ConvCode) (s : ℕ) → s < 2 ^ code.width → MarkOrUpTo 0 (get_or (started code) s mark)
started_bounded code s h =
    started_holds smallest code zero32 (MarkOrUpTo 0) (inr (unfold of_bits in record { lies = zero-le })) (inl refl) s

module _
    (code : ConvCode) (some : 0 < code.width) (soft : List Float) (n : ℕ) (few : 257 * n ≤ 2 ^ 24)
    (all_within : (i : ℕ) → i < 2 * n → within (get_or soft i nan) ≡ true) where
  abbrev Bounded : ℕ → Float → Type 0
  Bounded t m = t ≤ n → MarkOrUpTo (257 * t) m

  -- a metric and the branch of symbol t from the state s on the input i
  abbrev candidate : (t s i : ℕ) → Float → Float
  candidate t s i m = smallest.add m (symbol_costs code soft t s i)

  candidate_bounded :
      (t s i : ℕ) (m : Float) → t < n → MarkOrUpTo (257 * t) m → smallest.reached m ≡ true →
      UpTo (257 * suc t) 13 (candidate t s i m)
  unfolding symbol_costs
  candidate_bounded t s i m l h r =
      let more : 257 * suc t ≡ 257 * t + 257 = omega arith in
      let re_in = all_within (2 * t) (omega arith) in
      let im_in = all_within (2 * t + 1) (omega arith) in
      let branch = branch_bounded (get_or soft (2 * t) nan) (get_or soft (2 * t + 1) nan) re_in im_in code s i in
      rw more (sum_up_to binary32 13 (lit≤ tt) (reached_up_to h r) branch (omega arith))

  winner_bounded :
      (t s i : ℕ) (m y : Float) → Bounded t m → smallest.reached m ≡ true → smallest.better (candidate t s i m) y ≡ true →
      Bounded (suc t) (candidate t s i m)
  winner_bounded t s i m y h r b l = inr (candidate_bounded t s i m (omega arith) (h (omega arith)) r)

  pub metrics_bounded : (t s : ℕ) → t ≤ n → s < 2 ^ code.width → MarkOrUpTo (257 * t) (metric_at code soft t s)
  unfolding mets
  metrics_bounded t s l h =
      metric_kept smallest code some (symbol_costs code soft) Bounded (λ t l. inl refl) winner_bounded (started code)
      (λ s h l. started_bounded code s h) t s h l

  pub candidate_below_mark :
      (t s i : ℕ) → t < n → s < 2 ^ code.width → smallest.reached (metric_at code soft t s) ≡ true →
      lt (smallest.add (metric_at code soft t s) (symbol_costs code soft t s i)) mark ≡ true
  candidate_below_mark t s i l h r =
      up_to_below (omega arith) (candidate_bounded t s i (metric_at code soft t s) l (metrics_bounded t s (omega arith) h) r)
