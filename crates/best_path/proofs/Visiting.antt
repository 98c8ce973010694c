-- What the visits of a step leave at a new state is the best way into it out of its two predecessors, the lower one first.
-- No fact of the metric is used: only which visit touches which state. Assumes nothing.
use mathlib.Core.List.{List}
use mathlib.Core.Logic.{⊎_elim}
use mathlib.Core.Path.{◌≡◌, sym, ap, ◌∙◌}
use Prim.Native.Nat.{ℕ, zero, suc, ◌+◌, ◌-◌, ◌*◌, ◌^◌, ◌≤◌, ◌<◌}
use native.Mathlib.Decide.{le_ind}
use native.Mathlib.Nat.{add-zero}
use native.Mathlib.Numerals.{add-one}
use native.Mathlib.Omega.{arith}
use lib.Dec.{lit<}
use lib.ListN.{length, get_or, length-set, length-replicate, get_or-replicate}
use lib.Seq.{get_or-set_same, get_or-set_other}
use Rattle.trellis.specs.declared.ConvCode.{ConvCode}
use Rattle.trellis.specs.State.{next_state}
use Rattle.trellis.proofs.States.{states_two_halves, leads_to, comes_from}
use Rattle.best_path.specs.Metric.{Metric}
use Rattle.best_path.specs.Step.{Cell, unreached, relaxed, visit, visits, step, best}

module _ {M B : Type 0} (op : Metric M B) (code : ConvCode) (some : 0 < code.width) (old : ℕ → M) (gain : ℕ → ℕ → B) where
  abbrev go : ℕ → ℕ → List (Cell M) → List (Cell M)
  go = visit op code old gain

  abbrev rows : ℕ → List (Cell M)
  rows = visits op code old gain

  abbrev at : List (Cell M) → ℕ → Cell M
  at cells n = get_or cells n (unreached op)

  abbrev states : ℕ
  states = 2 ^ code.width

  abbrev half : ℕ
  half = 2 ^ (code.width - 1)

  twice : states ≡ 2 * half
  twice = states_two_halves code some

  -- ---- a visit

  length-visit : (s b : ℕ) (cells : List (Cell M)) → length (go s b cells) ≡ length cells
  unfolding visit
  length-visit s b cells = length-set cells (next_state code s b) _

  visit_here :
      (s b n : ℕ) (cells : List (Cell M)) → next_state code s b ≡ n → n < length cells →
      at (go s b cells) n ≡ relaxed op (at cells n) (old s) (gain s b) s
  unfolding visit
  visit_here s b n cells e h = rw e (get_or-set_same cells n (relaxed op (at cells n) (old s) (gain s b) s) (unreached op) h)

  visit_away : (s b n : ℕ) (cells : List (Cell M)) → (next_state code s b ≡ n → ⊥) → at (go s b cells) n ≡ at cells n
  unfolding visit
  visit_away s b n cells h = get_or-set_other cells (next_state code s b) n _ (unreached op) (λ e. h (sym e))

  pub length-visits : (s : ℕ) → length (rows s) ≡ states
  unfolding visits
  length-visits zero = length-replicate states (unreached op)
  length-visits (suc s) = length-visit s 1 (go s 0 (rows s)) ∙ length-visit s 0 (rows s) ∙ length-visits s

  -- both inputs of a state of which b alone leads to n
  both_visits :
      (s n b : ℕ) (cells : List (Cell M)) → b < 2 → next_state code s b ≡ n → ((c : ℕ) → (c ≡ b → ⊥) → next_state code s c ≡ n → ⊥) →
      n < length cells → at (go s 1 (go s 0 cells)) n ≡ relaxed op (at cells n) (old s) (gain s b) s
  both_visits s n zero cells hb e off h =
      visit_away s 1 n (go s 0 cells) (off 1 (λ q. omega arith)) ∙ visit_here s 0 n cells e h
  both_visits s n (suc zero) cells hb e off h =
      visit_here s 1 n (go s 0 cells) e (omega (arith, length-visit s 0 cells))
      ∙ ap (λ (z : Cell M). relaxed op z (old s) (gain s 1) s) (visit_away s 0 n cells (off 0 (λ q. omega arith)))
  both_visits s n (suc (suc b)) cells hb e off h = absurd (omega arith)

  -- ---- the new state k + b * half

  module _ (k b : ℕ) (hk : k < half) (hb : b < 2) where
    abbrev new : ℕ
    new = k + b * half

    new_below : new < states
    new_below = rw twice (below b hb)
      where
        below : (c : ℕ) → c < 2 → k + c * half < 2 * half
        below zero h = omega arith
        below (suc zero) h = omega arith
        below (suc (suc c)) h = absurd (omega arith)

    -- neither input of another state leads there
    passed : (s : ℕ) → s < states → (s ≡ 2 * k → ⊥) → (s ≡ 2 * k + 1 → ⊥) → at (rows (suc s)) new ≡ at (rows s) new
    unfolding visits
    passed s h not_first not-second =
        let off : (c : ℕ) → next_state code s c ≡ new → ⊥ =
        λ c e. ⊎_elim not_first not-second (comes_from code some s c k b h hk e).1 in
        visit_away s 1 new (go s 0 (rows s)) (off 1) ∙ visit_away s 0 new (rows s) (off 0)

    -- of its two predecessors the input b does, and the other input does not
    entered :
        (j : ℕ) → j < 2 → 2 * k + j < states →
        at (rows (suc (2 * k + j))) new ≡ relaxed op (at (rows (2 * k + j)) new) (old (2 * k + j)) (gain (2 * k + j) b) (2 * k + j)
    unfolding visits
    entered j hj h =
        both_visits (2 * k + j) new b (rows (2 * k + j)) hb (leads_to code some k b j hj)
        (λ c other e. other (comes_from code some (2 * k + j) c k b h hk e).0) (omega (arith, length-visits (2 * k + j), new_below))

    early : (s : ℕ) → s ≤ 2 * k → at (rows s) new ≡ unreached op
    unfolding visits
    early zero h = get_or-replicate states new (unreached op) (unreached op) new_below
    early (suc s) h = passed s (omega (arith, twice)) (λ e. omega arith) (λ e. omega arith) ∙ early s (omega arith)

    first : at (rows (suc (2 * k))) new ≡ relaxed op (unreached op) (old (2 * k)) (gain (2 * k) b) (2 * k)
    first =
        let here = entered 0 (lit< tt) (omega (arith, twice)) in
        let at_first = rw (add-zero (2 * k)) at here in
        at_first ∙ ap (λ (z : Cell M). relaxed op z (old (2 * k)) (gain (2 * k) b) (2 * k)) (early (2 * k) (omega arith))

    second : at (rows (suc (suc (2 * k)))) new ≡ best op code old gain k b
    unfolding best
    second =
        ap (λ (n : ℕ). at (rows (suc n)) new) (sym (add-one (2 * k)))
        ∙ entered 1 (lit< tt) (omega (arith, twice))
        ∙ ap (λ (z : Cell M). relaxed op z (old (2 * k + 1)) (gain (2 * k + 1) b) (2 * k + 1))
        (ap (λ (n : ℕ). at (rows n) new) (add-one (2 * k)) ∙ first)

    late : (s : ℕ) → suc (suc (2 * k)) ≤ s → s ≤ states → at (rows s) new ≡ best op code old gain k b
    late =
        le_ind (λ (s : ℕ). s ≤ states → at (rows s) new ≡ best op code old gain k b) (λ h. second)
        (λ s h e g. passed s g (λ q. omega arith) (λ q. omega arith) ∙ e (omega arith))

    -- the visiting order comes to the form by new state
    pub step_best : at (step op code old gain) new ≡ best op code old gain k b
    unfolding step
    step_best = late states (omega (arith, twice)) (omega arith)

  pub length-step : length (step op code old gain) ≡ states
  unfolding step
  length-step = length-visits states
