-- What holds of the mark, of the start and of whatever wins a step holds of every metric; it may speak of how many steps
-- were done. So where a NaN is never better, no metric is one, whatever the branches bring. Assumes nothing.
use mathlib.Core.Bool.{Bool, true, false, cond}
use mathlib.Core.List.{List}
use mathlib.Core.Path.{◌≡◌, refl, sym, subst}
use Prim.Native.Nat.{ℕ, zero, suc, ◌+◌, ◌-◌, ◌*◌, ◌/◌, ◌%◌, ◌^◌, ◌<◌}
use native.Mathlib.Nat.{mod-lt}
use native.Mathlib.Omega.{arith}
use lib.ListN.{get_or, get_or-map}
use lib.Pow.{pow_pos}
use Rattle.trellis.specs.declared.ConvCode.{ConvCode}
use Rattle.trellis.proofs.States.{states_two_halves}
use Rattle.best_path.specs.Metric.{Metric}
use Rattle.best_path.specs.Step.{Cell, unreached, relaxed, step, best}
use Rattle.best_path.specs.Run.{step_from, mets_after}
use Rattle.best_path.proofs.Survivors.{step-at}

-- a candidate is taken only where its state is reached and it is better
chosen_met :
    {M : Type 0} (Holds : M → Type 0) (p q : Bool) (a z : Cell M) → (p ≡ true → q ≡ true → Holds a.met) → Holds z.met →
    Holds (cond p (cond q a z) z).met
chosen_met Holds true true a z h k = h refl refl
chosen_met Holds true false a z h k = k
chosen_met Holds false q a z h k = k

-- one step: `Before` is said of the metrics before it, `After` of those after it
module _
    {M B : Type 0} (op : Metric M B) (code : ConvCode) (some : 0 < code.width) (gain : ℕ → ℕ → B) (Before After : M → Type 0)
    (of_mark : After op.mark)
    (of_winner :
    (s i : ℕ) (m y : M) → Before m → op.reached m ≡ true → op.better (op.add m (gain s i)) y ≡ true →
    After (op.add m (gain s i))) where
  relaxed_met : (s i : ℕ) (z : Cell M) (m : M) → Before m → After z.met → After (relaxed op z m (gain s i) s).met
  unfolding relaxed
  relaxed_met s i z m h k =
      let x = op.add m (gain s i) in
      chosen_met After (op.reached m) (op.better x z.met) (record { met = x; from = s }) z (of_winner s i m z.met h) k

  pub step_met :
      (old : ℕ → M) → ((s : ℕ) → s < 2 ^ code.width → Before (old s)) → (n : ℕ) → n < 2 ^ code.width →
      After (get_or (step op code old gain) n (unreached op)).met
  unfolding best
  step_met old held n h =
      let two = states_two_halves code some in
      let half = 2 ^ (code.width - 1) in
      let k = n % half in
      let i = n / half in
      let under : k < half = mod-lt n (pow_pos (code.width - 1)) in
      subst (λ (c : Cell M). After c.met) (sym (step-at op code some old gain n h))
      (relaxed_met (2 * k + 1) i _ (old (2 * k + 1)) (held (2 * k + 1) (omega (arith, two)))
      (relaxed_met (2 * k) i (unreached op) (old (2 * k)) (held (2 * k) (omega (arith, two))) of_mark))

-- `Holds t m` is said of the metrics after t steps
module _
    {M B : Type 0} (op : Metric M B) (code : ConvCode) (some : 0 < code.width) (gains : ℕ → ℕ → ℕ → B) (Holds : ℕ → M → Type 0)
    (of_mark : (t : ℕ) → Holds t op.mark)
    (of_winner :
    (t s i : ℕ) (m y : M) → Holds t m → op.reached m ≡ true → op.better (op.add m (gains t s i)) y ≡ true →
    Holds (suc t) (op.add m (gains t s i))) where
  abbrev met_of : Cell M → M
  met_of c = c.met

  pub metric_kept :
      (start : List M) → ((s : ℕ) → s < 2 ^ code.width → Holds 0 (get_or start s op.mark)) → (t s : ℕ) → s < 2 ^ code.width →
      Holds t (get_or (mets_after op code gains start t) s op.mark)
  unfolding mets_after step_from
  metric_kept start first zero s h = first s h
  metric_kept start first (suc t) s h =
      let old : ℕ → M = λ r. get_or (mets_after op code gains start t) r op.mark in
      subst (Holds (suc t)) (sym (get_or-map met_of (step op code old (gains t)) s (unreached op)))
      (step_met op code some (gains t) (Holds t) (Holds (suc t)) (of_mark (suc t)) (of_winner t) old (metric_kept start first t) s h)

-- where whatever is better than something has it, whichever branches brought it there
pub metric_holds :
    {M B : Type 0} (op : Metric M B) (Holds : M → Type 0) → Holds op.mark → ((x y : M) → op.better x y ≡ true → Holds x) →
    (code : ConvCode) → 0 < code.width → (gains : ℕ → ℕ → ℕ → B) (start : List M) →
    ((s : ℕ) → s < 2 ^ code.width → Holds (get_or start s op.mark)) → (t s : ℕ) → s < 2 ^ code.width →
    Holds (get_or (mets_after op code gains start t) s op.mark)
metric_holds op Holds of_mark of_better code some gains =
    metric_kept op code some gains (λ t. Holds) (λ t. of_mark) (λ t s i m y h r. of_better (op.add m (gains t s i)) y)
