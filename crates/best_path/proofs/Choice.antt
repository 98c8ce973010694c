-- Two words that end with the same input: which of them beats the other, from what is known one input before. Assumes nothing.
use mathlib.Core.Bool.{true, false}
use mathlib.Core.List.{List, [], ◌∷◌, ◌++◌}
use mathlib.Core.Logic.{inl, inr, ⊎_elim}
use mathlib.Core.Path.{◌≡◌, refl, ap, ◌∙◌}
use Prim.Native.Nat.{ℕ, zero, suc, ◌<◌}
use native.Mathlib.Omega.{arith}
use lib.IntN.{ℤ, ◌+ℤ◌}
use lib.Signed.{lt_z}
use Rattle.trellis.specs.declared.ConvCode.{ConvCode}
use Rattle.trellis.specs.State.{next_state, state_after}
use Rattle.best_path.specs.Path.{Leads, gained, passes, Ahead, Beats, Best}
use Rattle.best_path.proofs.Order.{lt_z_total, lt_z_add, AtMost, below_trans, at_most_trans}
use Rattle.best_path.proofs.Words.{longer_gained, longer_passes}

module _ (code : ConvCode) (gains : ℕ → ℕ → ℕ → ℤ) (b : ℕ) where
  -- a word that beats another one from the same state still does
  pub same_beats :
      {t s : ℕ} {v w : List ℕ} → Leads code t s v → Leads code t s w → Beats code gains t v w →
      Beats code gains (suc t) (v ++ b ∷ []) (w ++ b ∷ [])
  unfolding Ahead
  same_beats {t} {s} {v} {w} p q h =
      record {
        beats =
            rw (longer_gained code b p gains, longer_gained code b q gains, longer_passes code b p, longer_passes code b q)
            (⊎_elim (λ k. inl (lt_z_add (gained code gains w t) (gained code gains v t) (gains t s b) ∙ k))
            (λ e. inr (
              ap (λ (z : ℤ). z +ℤ gains t s b) e.0,
              ⊎_elim (λ q. inl (ap (λ (u : List ℕ). u ++ b ∷ []) q)) (λ a. inr (inr (refl, a))) e.1,
            ))
            h.beats);
      }

  -- before the first step there is one state only
  lower_state :
      (t : ℕ) {s r : ℕ} (v w : List ℕ) → state_after code v t ≡ s → state_after code w t ≡ r → s < r →
      Ahead (passes code v t) (passes code w t)
  unfolding Ahead passes state_after
  lower_state zero v w f g h = absurd (omega arith)
  lower_state (suc t) v w f g h = inl (omega arith)

  -- where the states differ at last, the lower one is ahead
  lower_ahead :
      {t s r : ℕ} {v w : List ℕ} → Leads code t s v → Leads code t r w → s < r → next_state code s b ≡ next_state code r b →
      Ahead (passes code (v ++ b ∷ []) (suc t)) (passes code (w ++ b ∷ []) (suc t))
  unfolding Ahead
  lower_ahead {t} {s} {r} {v} {w} p q h e =
      rw (longer_passes code b p, longer_passes code b q) (inr (e, lower_state t v w p.ends q.ends h))

  -- the best word's total bounds the others'
  gained_at_most :
      {t s : ℕ} {v w : List ℕ} {z : ℤ} → Best code gains t s v z → Leads code t s w →
      AtMost (gained code gains (w ++ b ∷ []) (suc t)) (z +ℤ gains t s b)
  gained_at_most {t} {s} {v} {w} {z} h q =
      rw (longer_gained code b q gains, ← h.gains_it)
      (⊎_elim (λ k. inl (lt_z_add (gained code gains w t) (gained code gains v t) (gains t s b) ∙ k))
      (λ e. inr (ap (λ (z : ℤ). z +ℤ gains t s b) e.0))
      (h.best w q).beats)

  pub best_gained :
      {t s : ℕ} {v : List ℕ} {z : ℤ} → Best code gains t s v z →
      gained code gains (v ++ b ∷ []) (suc t) ≡ z +ℤ gains t s b
  best_gained {t} {s} h = longer_gained code b h.leads gains ∙ ap (λ (z : ℤ). z +ℤ gains t s b) h.gains_it

  -- the best word from one state beats every word from another whose best one comes to less
  pub more_beats :
      {t s r : ℕ} {v u w : List ℕ} {x y : ℤ} → Best code gains t s v x → Best code gains t r u y →
      lt_z (y +ℤ gains t r b) (x +ℤ gains t s b) ≡ true → Leads code t r w → Beats code gains (suc t) (v ++ b ∷ []) (w ++ b ∷ [])
  more_beats {t} {s} {r} {v} {u} {w} {x} {y} h k more q =
      record { beats = inl (rw (best_gained h) (below_trans _ (y +ℤ gains t r b) (x +ℤ gains t s b) (gained_at_most k q) more)) }

  -- and every word from a higher state whose best one does not come to more
  pub lower_beats :
      {t s r : ℕ} {v u w : List ℕ} {x y : ℤ} → Best code gains t s v x → Best code gains t r u y → s < r →
      next_state code s b ≡ next_state code r b →
      lt_z (x +ℤ gains t s b) (y +ℤ gains t r b) ≡ false → Leads code t r w → Beats code gains (suc t) (v ++ b ∷ []) (w ++ b ∷ [])
  lower_beats {t} {s} {r} {v} {u} {w} {x} {y} h k lower e no_more q =
      record {
        beats =
            ⊎_elim (λ l. inl l) (λ g. inr (g, inr (lower_ahead h.leads q lower e)))
            (rw (best_gained h) (at_most_trans _ (y +ℤ gains t r b) (x +ℤ gains t s b) (gained_at_most k q) (lt_z_total _ _ no_more)));
      }
