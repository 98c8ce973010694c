-- The order of whole numbers, as the test `lt_z`: transitive, total, kept by a sum, and turned round by a negative. And the
-- tie rule's order of states: no two lists are each ahead of the other. Assumes nothing.
use mathlib.Core.Bool.{Bool, true, false}
use mathlib.Core.List.{List, [], ◌∷◌}
use mathlib.Core.Logic.{◌⊎◌, inl, inr, ⊎_elim}
use mathlib.Core.Path.{◌≡◌, refl, sym, ap, ap₂, ◌∙◌}
use Prim.Native.Nat.{ℕ, zero, suc}
use native.Mathlib.Nat.{eq-or-lt_of_le, le_refl}
use native.Mathlib.Omega.{arith}
use borrow.Author.Tests.{ltb-true, ltb-false, lt-ltb, le-ltb}
use lib.Dec.{leb-zero, leb-suc-zero, leb-suc-suc}
use lib.IntN.{ℤ, pos, negsuc, neg_ℤ, suc_ℤ, pred_ℤ, suc-pred, ◌+ℤ◌, ◌-ℤ◌}
use lib.IntN.{+ℤ_idl, +ℤ_idr, +ℤ_invl, +ℤ_assoc, +ℤ_comm, +ℤ-neg_ℤ_cancel, +ℤ-suc_ℤ, +ℤ-pred_ℤ}
use lib.Signed.{lt_z}
use Rattle.best_path.specs.Path.{Ahead}

abbrev pub AtMost : ℤ → ℤ → Type 0
AtMost x y = (lt_z x y ≡ true) ⊎ (x ≡ y)

lt_z_trans : (x y z : ℤ) → lt_z x y ≡ true → lt_z y z ≡ true → lt_z x z ≡ true
lt_z_trans (pos a) (pos b) (pos c) h k = lt-ltb a c (omega (arith, ltb-true a b h, ltb-true b c k))
lt_z_trans (pos a) (pos b) (negsuc c) h k = k
lt_z_trans (pos a) (negsuc b) z h k = cc
lt_z_trans (negsuc a) (pos b) (pos c) h k = refl
lt_z_trans (negsuc a) (pos b) (negsuc c) h k = cc
lt_z_trans (negsuc a) (negsuc b) (pos c) h k = refl
lt_z_trans (negsuc a) (negsuc b) (negsuc c) h k = lt-ltb c a (omega (arith, ltb-true b a h, ltb-true c b k))

pub lt_z_total : (x y : ℤ) → lt_z x y ≡ false → AtMost y x
lt_z_total (pos a) (pos b) h = ⊎_elim (λ e. inr (ap pos e)) (λ k. inl (lt-ltb b a k)) (eq-or-lt_of_le (ltb-false a b h))
lt_z_total (pos a) (negsuc b) h = inl refl
lt_z_total (negsuc a) (pos b) h = inl (sym h)
lt_z_total (negsuc a) (negsuc b) h = ⊎_elim (λ e. inr (ap negsuc (sym e))) (λ k. inl (lt-ltb a b k)) (eq-or-lt_of_le (ltb-false b a h))

pub below_trans : (x y z : ℤ) → AtMost x y → lt_z y z ≡ true → lt_z x z ≡ true
below_trans x y z (inl h) k = lt_z_trans x y z h k
below_trans x y z (inr e) k = rw e k

pub at_most_trans : (x y z : ℤ) → AtMost x y → AtMost y z → AtMost x z
at_most_trans x y z h (inl k) = inl (below_trans x y z h k)
at_most_trans x y z h (inr e) = rw (← e) h

pub lt_z_irrefl : (x : ℤ) → lt_z x x ≡ false
lt_z_irrefl (pos a) = le-ltb a a (le_refl a)
lt_z_irrefl (negsuc a) = le-ltb a a (le_refl a)

pub at_most_not_below : (x y : ℤ) → AtMost x y → lt_z y x ≡ false
at_most_not_below x y h = go (lt_z y x) refl
  where
    go : (u : Bool) → lt_z y x ≡ u → u ≡ false
    go true k = sym (below_trans x y x h k) ∙ lt_z_irrefl x
    go false k = refl

pub at_most_antisym : (x y : ℤ) → AtMost x y → AtMost y x → x ≡ y
at_most_antisym x y h (inl k) = cc (below_trans x y x h k, lt_z_irrefl x)
at_most_antisym x y h (inr e) = sym e

-- ---- under a sum

lt_z_suc : (x y : ℤ) → lt_z (suc_ℤ x) (suc_ℤ y) ≡ lt_z x y
lt_z_suc (pos a) (pos b) = leb-suc-suc (suc a) b
lt_z_suc (pos a) (negsuc zero) = leb-suc-zero (suc a)
lt_z_suc (pos a) (negsuc (suc b)) = refl
lt_z_suc (negsuc zero) (pos b) = leb-suc-suc 0 b ∙ leb-zero b
lt_z_suc (negsuc (suc a)) (pos b) = refl
lt_z_suc (negsuc zero) (negsuc zero) = refl
lt_z_suc (negsuc zero) (negsuc (suc b)) = sym (leb-suc-zero (suc b))
lt_z_suc (negsuc (suc a)) (negsuc zero) = sym (leb-suc-suc 0 a ∙ leb-zero a)
lt_z_suc (negsuc (suc a)) (negsuc (suc b)) = sym (leb-suc-suc (suc b) a)

lt_z_pred : (x y : ℤ) → lt_z (pred_ℤ x) (pred_ℤ y) ≡ lt_z x y
lt_z_pred x y = sym (lt_z_suc (pred_ℤ x) (pred_ℤ y)) ∙ ap₂ lt_z (suc-pred x) (suc-pred y)

module _ (x y : ℤ) where
  add_pos : (n : ℕ) → lt_z (x +ℤ pos n) (y +ℤ pos n) ≡ lt_z x y
  add_pos zero = ap₂ lt_z (+ℤ_idr x) (+ℤ_idr y)
  add_pos (suc n) = ap₂ lt_z (+ℤ-suc_ℤ x (pos n)) (+ℤ-suc_ℤ y (pos n)) ∙ lt_z_suc (x +ℤ pos n) (y +ℤ pos n) ∙ add_pos n

  add_negsuc : (n : ℕ) → lt_z (x +ℤ negsuc n) (y +ℤ negsuc n) ≡ lt_z x y
  add_negsuc zero = ap₂ lt_z (+ℤ-pred_ℤ x (pos 0)) (+ℤ-pred_ℤ y (pos 0)) ∙ lt_z_pred (x +ℤ pos 0) (y +ℤ pos 0) ∙ add_pos 0
  add_negsuc (suc n) =
      ap₂ lt_z (+ℤ-pred_ℤ x (negsuc n)) (+ℤ-pred_ℤ y (negsuc n)) ∙ lt_z_pred (x +ℤ negsuc n) (y +ℤ negsuc n) ∙ add_negsuc n

  pub lt_z_add : (z : ℤ) → lt_z (x +ℤ z) (y +ℤ z) ≡ lt_z x y
  lt_z_add (pos n) = add_pos n
  lt_z_add (negsuc n) = add_negsuc n

at_most_added : (x y z : ℤ) → AtMost x y → AtMost (x +ℤ z) (y +ℤ z)
at_most_added x y z (inl h) = inl (lt_z_add x y z ∙ h)
at_most_added x y z (inr e) = inr (ap (λ (s : ℤ). s +ℤ z) e)

at_most_cancel : (x y z : ℤ) → AtMost (x +ℤ z) (y +ℤ z) → AtMost x y
at_most_cancel x y z (inl h) = inl (sym (lt_z_add x y z) ∙ h)
at_most_cancel x y z (inr e) = inr (sym (+ℤ-neg_ℤ_cancel x z) ∙ ap (λ (s : ℤ). s -ℤ z) e ∙ +ℤ-neg_ℤ_cancel y z)

pub at_most_sum : (w x y z : ℤ) → AtMost w x → AtMost y z → AtMost (w +ℤ y) (x +ℤ z)
at_most_sum w x y z h k =
    at_most_trans (w +ℤ y) (x +ℤ y) (x +ℤ z) (at_most_added w x y h) (rw (+ℤ_comm x y, +ℤ_comm x z) (at_most_added y z x k))

-- of two sums in order, where one summand is not smaller the other is not larger
pub at_most_rest : (w x y z : ℤ) → AtMost (w +ℤ x) (y +ℤ z) → AtMost z w → AtMost x y
at_most_rest w x y z h k =
    at_most_cancel x y z (rw (+ℤ_comm x z) (at_most_trans (z +ℤ x) (w +ℤ x) (y +ℤ z) (at_most_added z w x k) h))

pub at_most_neg : (x y : ℤ) → AtMost x y → AtMost (neg_ℤ y) (neg_ℤ x)
at_most_neg x y h = at_most_cancel (neg_ℤ y) (neg_ℤ x) (x +ℤ y) (rw (back x y, +ℤ_comm x y, back y x) h)
  where
    back : (a b : ℤ) → neg_ℤ a +ℤ (a +ℤ b) ≡ b
    back a b = sym (+ℤ_assoc (neg_ℤ a) a b) ∙ ap (λ (s : ℤ). s +ℤ b) (+ℤ_invl a) ∙ +ℤ_idl b

-- ---- the tie rule

pub ahead_asym : (xs ys : List ℕ) → Ahead xs ys → Ahead ys xs → ⊥
unfolding Ahead
ahead_asym [] ys h k = h
ahead_asym (x ∷ xs) [] h k = h
ahead_asym (x ∷ xs) (y ∷ ys) (inl h) (inl k) = omega arith
ahead_asym (x ∷ xs) (y ∷ ys) (inl h) (inr k) = omega (arith, k.0)
ahead_asym (x ∷ xs) (y ∷ ys) (inr h) (inl k) = omega (arith, h.0)
ahead_asym (x ∷ xs) (y ∷ ys) (inr h) (inr k) = ahead_asym xs ys h.1 k.1
