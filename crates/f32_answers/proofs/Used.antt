-- The search for the first used reading that is NaN or infinite, by the numbers of the readings that it passes. Assumes
-- nothing.
use Rattle.std.proofs.Common.{◌≡◌, true, false, refl, sym, ap, ◌∙◌, subst, ℕ, zero, suc, ◌≤◌, ◌<◌, List, length, get_or, take}
use Rattle.std.proofs.Common.{Option, Some, None, MatchOption, length-take-le, get_or-take, add-one, arith}
use lib.Ieee.{Float}
use Rattle.f32s.specs.Single.{zero32, finite}
use Rattle.refusal.specs.First.{FindsBad}
use Rattle.refusal.proofs.FirstBad.{Sought, sought_starts, found_here, sought_goes_on, finds_bad, finds_none, all_good}

module _ (all : List Float) (used : ℕ) (enough : used ≤ length all) where
  -- a used reading's test is that of the reading of its number
  looked-at : {good : _} (i : ℕ) → i < used → finite (get_or all i zero32) ≡ good → good ≡ finite (get_or (take used all) i zero32)
  looked-at i h e = sym (ap finite (get_or-take used all i zero32 h) ∙ e)

  -- those before are finite
  passed :
      (i : ℕ) → i ≤ used → ((k : ℕ) → 0 ≤ k → k < i → finite (get_or all k zero32) ≡ true) → Sought finite (take used all) i
  passed zero h good = sought_starts finite
  passed (suc i) h good =
      subst (λ (n : ℕ). Sought finite (take used all) n) (add-one i)
      (sought_goes_on finite (passed i (omega arith) (λ k low high. good k low (omega arith))) zero32
      (omega (arith, length-take-le used all enough)) (looked-at i (omega arith) (good i (omega arith) (omega arith))) refl)

  pub used_finds :
      (found : Option ℕ) →
      MatchOption found ((k : ℕ) → 0 ≤ k → k < used → finite (get_or all k zero32) ≡ true)
      (λ i. (0 ≤ i) × (i < used) × (finite (get_or all i zero32) ≡ false)
      × ((k : ℕ) → 0 ≤ k → k < i → finite (get_or all k zero32) ≡ true)) →
      FindsBad finite (take used all) found
  used_finds None good =
      let sized = length-take-le used all enough in
      let each : (i : ℕ) → i < length (take used all) → finite (get_or (take used all) i zero32) ≡ true =
      λ i h. sym (looked-at i (omega (arith, sized)) (good i (omega arith) (omega (arith, sized)))) in
      finds_none finite _
      (omega (arith, all_good finite zero32 (take used all) each))
  used_finds (Some i) (_, h, bad, before) =
      let inside : i < length (take used all) = omega (arith, length-take-le used all enough) in
      finds_bad finite _ i inside (found_here finite (passed i (omega arith) before) zero32 inside (looked-at i h bad) refl)
