-- The least of the first metrics: it is one of them, or the mark, and none of them is below it. Assumes nothing.
use mathlib.Core.Bool.{Bool, true, false, cond, true≢false}
use mathlib.Core.List.{List}
use mathlib.Core.Logic.{◌⊎◌, inl, inr, ⊎_elim}
use mathlib.Core.Path.{◌≡◌, refl, sym, ap, ◌∙◌}
use Prim.Native.Nat.{ℕ, zero, suc, ◌<◌}
use native.Mathlib.Nat.{eq-or-lt_of_le}
use native.Mathlib.Omega.{arith}
use lib.Ieee.{Float, lt}
use lib.ListN.{get_or}
use Rattle.f32s.proofs.Ordered.{lt_trans, lt_irrefl}
use Rattle.butterflies.specs.Smallest.{mark}
use Rattle.streaming_steps.specs.Steps.{least_of}

-- the lesser of two: neither is below it
first_not_below : (x y : Float) → lt x (cond (lt x y) x y) ≡ false
first_not_below x y = go (lt x y) refl
  where
    go : (b : Bool) → lt x y ≡ b → lt x (cond b x y) ≡ false
    go true e = lt_irrefl x
    go false e = e

-- and what is not below the second is not below it
still_not_below : (x y z : Float) → lt z y ≡ false → lt z (cond (lt x y) x y) ≡ false
still_not_below x y z h = go (lt x y) (lt z x) refl refl
  where
    go : (b c : Bool) → lt x y ≡ b → lt z x ≡ c → lt z (cond b x y) ≡ false
    go true true e f = f ∙ sym (lt_trans z x y f e) ∙ h
    go true false e f = f
    go false c e f = h

module _ (mets : List Float) where
  pub least_not_above : (n s : ℕ) → s < n → lt (get_or mets s mark) (least_of mets n) ≡ false
  unfolding least_of
  least_not_above zero s h = absurd (omega arith)
  least_not_above (suc n) s h =
      ⊎_elim (λ e. rw e (first_not_below (get_or mets n mark) (least_of mets n)))
      (λ l. still_not_below (get_or mets n mark) (least_of mets n) (get_or mets s mark) (least_not_above n s l))
      (eq-or-lt_of_le {n = s} {m = n} (omega arith))

  -- the least of the first n is that of a state
  pub record Found (n : ℕ) : Type 0 where
    pub at : ℕ
    pub at_below : at < n
    pub is_least : least_of mets n ≡ get_or mets at mark

  least_found : (n : ℕ) → (least_of mets n ≡ mark) ⊎ Found n
  unfolding least_of
  least_found zero = inl refl
  least_found (suc n) = go (lt (get_or mets n mark) (least_of mets n)) refl (least_found n)
    where
      go :
          (b : Bool) → lt (get_or mets n mark) (least_of mets n) ≡ b → (least_of mets n ≡ mark) ⊎ Found n →
          (least_of mets (suc n) ≡ mark) ⊎ Found (suc n)
      go true e f = inr (record { at = n; at_below = omega arith; is_least = rw e })
      go false e (inl f) = inl (rw e f)
      go false e (inr f) = inr (record { at = f.at; at_below = omega arith; is_least = rw e f.is_least })

  -- where any of them is below the mark
  pub least_is_one : (n s : ℕ) → s < n → lt (get_or mets s mark) mark ≡ true → Found n
  least_is_one n s h r = go (least_found n)
    where
      go : (least_of mets n ≡ mark) ⊎ Found n → Found n
      go (inl e) = absurd (true≢false (sym r ∙ ap (lt (get_or mets s mark)) (sym e) ∙ least_not_above n s h))
      go (inr f) = f
