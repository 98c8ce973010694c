-- One step without normalisation: it keeps a lower bound of the metrics, adds to an upper bound at most what a branch costs,
-- and each branch out of a reached state bounds the metric of the state that it leads to. Assumes nothing.
use mathlib.Core.Bool.{true, false, true≢false}
use mathlib.Core.List.{List, map}
use mathlib.Core.Logic.{◌⊎◌, inl, inr}
use mathlib.Core.Path.{◌≡◌, refl, sym, ap, ◌∙◌}
use Prim.Native.Nat.{ℕ, ◌+◌, ◌^◌, ◌≤◌, ◌<◌}
use native.Mathlib.Omega.{arith}
use lib.Dec.{lit≤}
use lib.Ieee.{Float, nan, binary32, lt}
use lib.ListN.{length, get_or, length-map, get_or-map}
use Rattle.best_path.specs.Run.{step_from}
use Rattle.best_path.specs.Step.{Cell, unreached, step}
use Rattle.best_path.proofs.Metrics.{step_met}
use Rattle.best_path.proofs.NoBetter.{step_no_better}
use Rattle.best_path.proofs.Survivors.{step_held}
use Rattle.best_path.proofs.Visiting.{length-step}
use Rattle.f32s.specs.Bounded.{UpTo}
use Rattle.f32s.specs.Single.{within}
use Rattle.f32s.proofs.Bounded.{sum_up_to}
use Rattle.f32s.proofs.Ordered.{lt_trans, lt_irrefl}
use Rattle.f32s.proofs.Ranges.{Range, up_to_not_above}
use Rattle.f32s.proofs.RangeSums.{sum_range}
use Rattle.butterflies.specs.Smallest.{mark, smallest}
use Rattle.symbols.specs.Costs.{costs}
use Rattle.symbols.proofs.Bounds.{branch_bounded, up_to_below}
use Rattle.trellis.specs.declared.ConvCode.{ConvCode}
use Rattle.trellis.specs.State.{next_state}

-- A branch costs from 0 up to 257 * 2 ^ 13.
abbrev pub dearest : ℕ
dearest = 257

abbrev pub scale : ℕ
scale = 13

-- up to here every multiple of 2 ^ 13 is a float
abbrev pub exact : ℕ
exact = 2 ^ 24

-- the mark, or a number from p * 2 ^ 13 up to q * 2 ^ 13
abbrev pub MarkOrRange : (p q : ℕ) → Float → Type 0
MarkOrRange p q m = (m ≡ mark) ⊎ Range p q scale m

pub reached_range : {p q : ℕ} {m : Float} → MarkOrRange p q m → smallest.reached m ≡ true → Range p q scale m
reached_range (inl e) r = absurd (true≢false (sym r ∙ ap (λ (x : Float). lt x mark) e ∙ lt_irrefl mark))
reached_range (inr v) r = v

-- what a number below the mark is not below is no more than that, and is not the mark
pub no_more : {p q r : ℕ} {x m : Float} → UpTo r scale x → lt x mark ≡ true → MarkOrRange p q m → lt x m ≡ false → UpTo r scale m
no_more {p} {q} {r} {x} u b (inl e) h = absurd (true≢false (sym b ∙ ap (lt x) (sym e) ∙ h))
no_more u b (inr v) h = up_to_not_above scale u v.up_to h

-- ---- one step

abbrev met_of : Cell Float → Float
met_of c = c.met

-- the metrics after a step
abbrev pub next : ConvCode → (re im : Float) → List Float → List Float
next code re im mets = map met_of (step smallest code (λ (s : ℕ). get_or mets s nan) (costs code re im))

pub length-next :
    (code : ConvCode) → 0 < code.width → (re im : Float) (mets : List Float) → length (next code re im mets) ≡ 2 ^ code.width
length-next code some re im mets =
    let old : ℕ → Float = λ s. get_or mets s nan in
    length-map (step smallest code old (costs code re im)) met_of ∙ length-step smallest code some old (costs code re im)

module _
    (code : ConvCode) (some : 0 < code.width) (re im : Float) (re_in : within re ≡ true) (im_in : within im ≡ true)
    (mets : List Float) (room : 2 ^ code.width ≤ length mets) where
  abbrev met_at : ℕ → Float
  met_at s = get_or mets s mark

  abbrev cells : List (Cell Float)
  cells = step smallest code met_at (costs code re im)

  next_at : (s : ℕ) → get_or (next code re im mets) s mark ≡ (get_or cells s (unreached smallest)).met
  unfolding step_from
  next_at s =
      ap (λ (l : List (Cell Float)). get_or (map met_of l) s mark) (step_held smallest code mets nan (costs code re im) room)
      ∙ get_or-map met_of cells s (unreached smallest)

  pub next_range :
      (p q : ℕ) → q + dearest ≤ exact → ((s : ℕ) → s < 2 ^ code.width → MarkOrRange p q (met_at s)) →
      (s : ℕ) → s < 2 ^ code.width → MarkOrRange p (q + dearest) (get_or (next code re im mets) s mark)
  next_range p q few all s h =
      rw (next_at s)
      (step_met smallest code some (costs code re im) (MarkOrRange p q) (MarkOrRange p (q + dearest)) (inl refl)
      (λ s i m y v r better.
      inr (sum_range binary32 scale (lit≤ tt) (reached_range v r) (branch_bounded re im re_in im_in code s i) few))
      met_at all s h)

  -- a state that is reached leads to states that are
  pub next_led :
      (p q r s i : ℕ) → q + dearest ≤ exact → ((s : ℕ) → s < 2 ^ code.width → MarkOrRange p q (met_at s)) →
      s < 2 ^ code.width → i < 2 → next_state code s i < 2 ^ code.width → r + dearest ≤ exact → UpTo r scale (met_at s) →
      UpTo (r + dearest) scale (get_or (next code re im mets) (next_state code s i) mark)
  next_led p q r s i few all h hi hn few' u =
      let sum = sum_up_to binary32 scale (lit≤ tt) u (branch_bounded re im re_in im_in code s i) few' in
      no_more sum (up_to_below few' sum) (next_range p q few all (next_state code s i) hn)
      (rw (next_at (next_state code s i))
      (step_no_better smallest lt_trans lt_irrefl code some met_at (costs code re im) s i h hi (up_to_below (omega arith) u)))
