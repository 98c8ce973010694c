-- Words as paths through the trellis from state 0: what they gain in whole numbers, the states that they pass
-- through, and which of two comes first. Definitions only.
use Rattle.std.specs.Prelude.{Bool, true, false, List, [], ◌∷◌, ◌⊎◌, ◌≡◌}
use Rattle.std.specs.Prelude.{ℕ, zero, suc, ◌<◌, ℤ, pos, ◌+ℤ◌, length, get_or}
use Rattle.std.specs.Int.Signed.{lt_z}
use Rattle.trellis.specs.declared.ConvCode.{ConvCode}
use Rattle.trellis.specs.State.{state_after}
use Rattle.best_path.specs.Metric.{Metric}
use Rattle.best_path.specs.Run.{started_at}

-- t input bits that lead from state 0 to the state s
pub record Leads (code : ConvCode) (t s : ℕ) (w : List ℕ) : Type 0 where
  pub sized : length w ≡ t
  pub bits : (i : ℕ) → get_or w i 0 < 2
  pub ends : state_after code w t ≡ s

-- what the first t steps gain, where the branch of step u from the state s on the input b brings `gains u s b`
unfoldable pub gained : ConvCode → (ℕ → ℕ → ℕ → ℤ) → List ℕ → ℕ → ℤ
unfolding state_after
gained code gains w zero = pos 0
gained code gains w (suc t) = gained code gains w t +ℤ gains t (state_after code w t) (get_or w t 0)

-- the states that a word passes through, last step first
unfoldable pub passes : ConvCode → List ℕ → ℕ → List ℕ
unfolding state_after
passes code w zero = []
passes code w (suc t) = state_after code w (suc t) ∷ passes code w t

-- at the first difference the smaller number
unfoldable pub Ahead : List ℕ → List ℕ → Type 0
Ahead [] ys = ⊥
Ahead (x ∷ xs) [] = ⊥
Ahead (x ∷ xs) (y ∷ ys) = (x < y) ⊎ ((x ≡ y) × Ahead xs ys)

-- Another word gains less; or it gains as much, and is the same one or behind by the tie rule.
pub record Beats (code : ConvCode) (gains : ℕ → ℕ → ℕ → ℤ) (t : ℕ) (v w : List ℕ) : Type 0 where
  pub beats :
      (lt_z (gained code gains w t) (gained code gains v t) ≡ true)
      ⊎ ((gained code gains w t ≡ gained code gains v t) × ((v ≡ w) ⊎ Ahead (passes code v t) (passes code w t)))

-- The word v leads to s in t steps and gains z, and beats every word that leads there.
pub record Best (code : ConvCode) (gains : ℕ → ℕ → ℕ → ℤ) (t s : ℕ) (v : List ℕ) (z : ℤ) : Type 0 where
  pub leads : Leads code t s v
  pub gains_it : gained code gains v t ≡ z
  pub best : (w : List ℕ) → Leads code t s w → Beats code gains t v w

-- ---- whole numbers as a metric, larger is better

-- a state that is not reached has none
pub data Total : Type 0 where
  none : Total
  total : ℤ → Total

abbrev pub added : Total → ℤ → Total
added none g = none
added (total z) g = total (z +ℤ g)

abbrev pub is_reached : Total → Bool
is_reached none = false
is_reached (total z) = true

abbrev pub larger : Total → Total → Bool
larger none y = false
larger (total x) none = true
larger (total x) (total y) = lt_z y x

abbrev pub wholes : Metric Total ℤ
wholes = record { mark = none; reached = is_reached; add = added; better = larger }

-- State 0 starts at 0.
abbrev pub started_whole : ConvCode → List Total
started_whole code = started_at wholes code (total (pos 0))
