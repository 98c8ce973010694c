-- No branch out of a reached state is better than the metric of the state that it leads to. Over any metric whose `better`
-- is a strict order. Assumes nothing.
use mathlib.Core.Bool.{Bool, true, false, cond}
use mathlib.Core.Path.{◌≡◌, refl, sym, subst, ◌∙◌}
use Prim.Native.Nat.{ℕ, zero, suc, ◌+◌, ◌*◌, ◌/◌, ◌%◌, ◌^◌, ◌<◌}
use lib.ListN.{get_or}
use native.Mathlib.Omega.{arith}
use Rattle.trellis.specs.declared.ConvCode.{ConvCode}
use Rattle.trellis.specs.State.{next_state}
use Rattle.trellis.proofs.States.{states_two_halves}
use Rattle.best_path.specs.Metric.{Metric}
use Rattle.best_path.specs.Step.{Cell, unreached, relaxed, step, best}
use Rattle.best_path.proofs.Visiting.{step_best}

module _
    {M B : Type 0} (op : Metric M B) (trans : (x y z : M) → op.better x y ≡ true → op.better y z ≡ true → op.better x z ≡ true)
    (irrefl : (x : M) → op.better x x ≡ false) where
  -- what is not better than the best so far is not better than what replaces that
  still_no_better :
      (x : M) (z : Cell M) (m : M) (g : B) (s : ℕ) → op.better x z.met ≡ false →
      op.better x (relaxed op z m g s).met ≡ false
  unfolding relaxed
  still_no_better x z m g s h = go (op.reached m) (op.better y z.met) (op.better x y) refl refl
    where
      y : M
      y = op.add m g

      go :
          (p q r : Bool) → op.better y z.met ≡ q → op.better x y ≡ r →
          op.better x (cond p (cond q (record { met = y; from = s }) z) z).met ≡ false
      go true true true e f = f ∙ sym (trans x y z.met f e) ∙ h
      go true true false e f = f
      go true false r e f = h
      go false q r e f = h

  -- a branch out of a reached state is not better than what it was compared with, or has replaced that
  itself_no_better :
      (z : Cell M) (m : M) (g : B) (s : ℕ) → op.reached m ≡ true → op.better (op.add m g) (relaxed op z m g s).met ≡ false
  unfolding relaxed
  itself_no_better z m g s r = rw r (go (op.better y z.met) refl)
    where
      y : M
      y = op.add m g

      go : (q : Bool) → op.better y z.met ≡ q → op.better y (cond q (record { met = y; from = s }) z).met ≡ false
      go true e = irrefl y
      go false e = e

  module _ (code : ConvCode) (some : 0 < code.width) (old : ℕ → M) (gain : ℕ → ℕ → B) where
    abbrev candidate : ℕ → ℕ → M
    candidate s i = op.add (old s) (gain s i)

    abbrev NoBetter : (k i s : ℕ) → Type 0
    NoBetter k i s = op.reached (old s) ≡ true → op.better (candidate s i) (best op code old gain k i).met ≡ false

    lower_no_better : (k i : ℕ) → NoBetter k i (2 * k)
    unfolding best
    lower_no_better k i g =
        still_no_better (candidate (2 * k) i) _ (old (2 * k + 1)) (gain (2 * k + 1) i) (2 * k + 1)
        (itself_no_better (unreached op) (old (2 * k)) (gain (2 * k) i) (2 * k) g)

    upper_no_better : (k i : ℕ) → NoBetter k i (2 * k + 1)
    unfolding best
    upper_no_better k i = itself_no_better _ (old (2 * k + 1)) (gain (2 * k + 1) i) (2 * k + 1)

    -- s is one of the two states behind the new one
    best_no_better : (k i s r : ℕ) → s ≡ 2 * k + r → r < 2 → NoBetter k i s
    best_no_better k i s zero e h = subst (NoBetter k i) (omega arith) (lower_no_better k i)
    best_no_better k i s (suc zero) e h = subst (NoBetter k i) (sym e) (upper_no_better k i)
    best_no_better k i s (suc (suc r)) e h = absurd (omega arith)

    pub step_no_better :
        (s i : ℕ) → s < 2 ^ code.width → i < 2 → op.reached (old s) ≡ true →
        op.better (candidate s i) (get_or (step op code old gain) (next_state code s i) (unreached op)).met ≡ false
    unfolding next_state
    step_no_better s i h hi g =
        let two = states_two_halves code some in
        rw (step_best op code some old gain (s / 2) i (omega (arith, two)) hi)
        (best_no_better (s / 2) i s (s % 2) (omega arith) (omega arith) g)
