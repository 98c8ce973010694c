-- Whole numbers as a metric: the way back from a state is the best word that leads there, and its total is what that word
-- gains; a state without a total is one that no word leads to. By induction over the steps. Assumes nothing.
use mathlib.Core.Bool.{Bool, true, false, cond}
use mathlib.Core.List.{List, [], ◌∷◌, ◌++◌}
use mathlib.Core.Logic.{inl, inr, ⊎_elim}
use mathlib.Core.Path.{◌≡◌, refl, sym, ap, subst, ◌∙◌}
use Prim.Native.Nat.{ℕ, zero, suc, ◌+◌, ◌-◌, ◌*◌, ◌/◌, ◌%◌, ◌^◌, ◌<◌}
use native.Mathlib.Nat.{add_comm, add-zero, div-add-mod', div-lt_iff_lt-mul, mod-lt}
use native.Mathlib.Omega.{arith}
use lib.Dec.{lit<}
use lib.IntN.{ℤ, pos, ◌+ℤ◌}
use lib.ListN.{length, get_or, get_or-map}
use lib.Pow.{pow_pos}
use lib.Signed.{lt_z}
use Rattle.trellis.specs.declared.ConvCode.{ConvCode}
use Rattle.trellis.specs.State.{next_state, state_after}
use Rattle.trellis.proofs.States.{states_two_halves, leads_to}
use Rattle.best_path.specs.Step.{Cell, unreached, relaxed, step, best}
use Rattle.best_path.specs.Run.{step_from, mets_after, survivors, traced}
use Rattle.best_path.specs.Path.{Leads, gained, Beats, Best, Total, none, total, larger, wholes, started_whole}
use Rattle.best_path.proofs.Start.{others_marked}
use Rattle.best_path.proofs.Survivors.{step-at}
use Rattle.best_path.proofs.Words.{longer_leads, leads_longer}
use Rattle.best_path.proofs.Choice.{same_beats, best_gained, more_beats, lower_beats}

-- What a total says: none, that no word leads to the state; one, that the word v is the best.
abbrev Found : (code : ConvCode) (gains : ℕ → ℕ → ℕ → ℤ) (t s : ℕ) (v : List ℕ) → Total → Type 0
Found code gains t s v none = (w : List ℕ) → Leads code t s w → ⊥
Found code gains t s v (total z) = Best code gains t s v z

-- ---- one step

-- of two totals the larger number is better
larger_is_better : (x y : ℤ) → larger (total x) (total y) ≡ lt_z y x
larger_is_better x y = refl

module _
    (code : ConvCode) (some : 0 < code.width) (gains : ℕ → ℕ → ℕ → ℤ) (t k b n : ℕ) (hk : k < 2 ^ (code.width - 1)) (hb : b < 2)
    (new : k + b * 2 ^ (code.width - 1) ≡ n) (word : ℕ → List ℕ) where
  lower_next : next_state code (2 * k) b ≡ n
  lower_next = ap (λ (s : ℕ). next_state code s b) (sym (add-zero (2 * k))) ∙ leads_to code some k b 0 (lit< tt) ∙ new

  upper_next : next_state code (2 * k + 1) b ≡ n
  upper_next = leads_to code some k b 1 (lit< tt) ∙ new

  best_longer :
      {s : ℕ} {v : List ℕ} {z : ℤ} → Best code gains t s v z → next_state code s b ≡ n →
      ((w : List ℕ) → Leads code t (2 * k) w → Beats code gains (suc t) (v ++ b ∷ []) (w ++ b ∷ [])) →
      ((w : List ℕ) → Leads code t (2 * k + 1) w → Beats code gains (suc t) (v ++ b ∷ []) (w ++ b ∷ [])) →
      Best code gains (suc t) n (v ++ b ∷ []) (z +ℤ gains t s b)
  best_longer {v = v} h e over_lower over_upper =
      record {
        leads = subst (λ (m : ℕ). Leads code (suc t) m (v ++ b ∷ [])) e (longer_leads code b h.leads hb);
        gains_it = best_gained code gains b h;
        best = λ w q.
            let split = leads_longer code some q k b hk new in
            subst (λ (u : List ℕ). Beats code gains (suc t) (v ++ b ∷ []) u) (sym split.is)
            (⊎_elim (over_lower split.front) (over_upper split.front) split.front_leads);
      }

  -- the words from its own state
  over_own :
      {s : ℕ} {v : List ℕ} {z : ℤ} → Best code gains t s v z → (w : List ℕ) → Leads code t s w →
      Beats code gains (suc t) (v ++ b ∷ []) (w ++ b ∷ [])
  over_own h w q = same_beats code gains b h.leads q (h.best w q)

  abbrev FoundAt : Cell Total → Type 0
  FoundAt c = Found code gains (suc t) n (word c.from ++ b ∷ []) c.met

  -- both states are reached: the higher one is taken where it comes to more
  found_better :
      {x y : ℤ} (q : Bool) → lt_z (x +ℤ gains t (2 * k) b) (y +ℤ gains t (2 * k + 1) b) ≡ q →
      Best code gains t (2 * k) (word (2 * k)) x → Best code gains t (2 * k + 1) (word (2 * k + 1)) y →
      FoundAt
      (cond q (record { met = total (y +ℤ gains t (2 * k + 1) b); from = 2 * k + 1 })
      (record { met = total (x +ℤ gains t (2 * k) b); from = 2 * k }))
  found_better true e lo hi = best_longer hi upper_next (λ w q. more_beats code gains b hi lo e q) (over_own hi)
  found_better false e lo hi =
      best_longer lo lower_next (over_own lo)
      (λ w q. lower_beats code gains b lo hi (omega arith) (lower_next ∙ sym upper_next) e q)

  found_cell :
      (l u : Total) → Found code gains t (2 * k) (word (2 * k)) l → Found code gains t (2 * k + 1) (word (2 * k + 1)) u →
      FoundAt
      (relaxed wholes (relaxed wholes (unreached wholes) l (gains t (2 * k) b) (2 * k)) u (gains t (2 * k + 1) b) (2 * k + 1))
  unfolding relaxed
  found_cell none none lo hi = λ w q.
      let split = leads_longer code some q k b hk new in
      ⊎_elim (lo split.front) (hi split.front) split.front_leads
  found_cell (total x) none lo hi = best_longer lo lower_next (over_own lo) (λ w q. absurd (hi w q))
  found_cell none (total y) lo hi = best_longer hi upper_next (λ w q. absurd (lo w q)) (over_own hi)
  found_cell (total x) (total y) lo hi =
      let lower = x +ℤ gains t (2 * k) b in
      let upper = y +ℤ gains t (2 * k + 1) b in
      found_better (larger (total upper) (total lower)) (sym (larger_is_better upper lower)) lo hi

  found_best :
      (old : ℕ → Total) → Found code gains t (2 * k) (word (2 * k)) (old (2 * k)) →
      Found code gains t (2 * k + 1) (word (2 * k + 1)) (old (2 * k + 1)) → FoundAt (best wholes code old (gains t) k b)
  unfolding best
  found_best old lo hi = found_cell (old (2 * k)) (old (2 * k + 1)) lo hi

-- ---- all steps

module _ (code : ConvCode) (some : 0 < code.width) (gains : ℕ → ℕ → ℕ → ℤ) where
  abbrev mets : ℕ → List Total
  mets = mets_after wholes code gains (started_whole code)

  abbrev froms : ℕ → List ℕ
  froms = survivors wholes code gains (started_whole code)

  abbrev word : ℕ → ℕ → List ℕ
  word = traced wholes code froms

  abbrev half : ℕ
  half = 2 ^ (code.width - 1)

  -- before a step there is the empty word, at state 0
  best_empty : Best code gains 0 0 [] (pos 0)
  unfolding gained state_after
  best_empty =
      record {
        leads = record { sized = refl; bits = λ i. lit< tt; ends = refl };
        gains_it = refl;
        best = λ w q. record { beats = inr (refl, inl (sym (empty w q.sized))) };
      }
    where
      empty : (w : List ℕ) → length w ≡ 0 → w ≡ []
      empty [] e = refl
      empty (x ∷ w) e = absurd (omega arith)

  found_start : (s : ℕ) → Found code gains 0 s [] (get_or (started_whole code) s none)
  unfolding state_after
  found_start zero = best_empty
  found_start (suc s) = rw (others_marked wholes code (total (pos 0)) s) (λ w q. let e = q.ends in omega arith)

  abbrev old_at : ℕ → ℕ → Total
  old_at t s = get_or (mets t) s none

  -- what step t makes of the state s
  abbrev cell : ℕ → ℕ → Cell Total
  cell t s = best wholes code (old_at t) (gains t) (s % half) (s / half)

  abbrev met_of : Cell Total → Total
  met_of c = c.met

  abbrev from_of : Cell Total → ℕ
  from_of c = c.from

  met_at : (t s : ℕ) → s < 2 ^ code.width → old_at (suc t) s ≡ (cell t s).met
  unfolding mets_after step_from
  met_at t s h =
      get_or-map met_of (step wholes code (old_at t) (gains t)) s (unreached wholes)
      ∙ ap met_of (step-at wholes code some (old_at t) (gains t) s h)

  from_at : (t s : ℕ) → s < 2 ^ code.width → get_or (froms t) s 0 ≡ (cell t s).from
  unfolding survivors step_from
  from_at t s h =
      get_or-map from_of (step wholes code (old_at t) (gains t)) s (unreached wholes)
      ∙ ap from_of (step-at wholes code some (old_at t) (gains t) s h)

  found : (t s : ℕ) → s < 2 ^ code.width → Found code gains t s (word t s) (old_at t s)
  unfolding mets_after traced
  found zero s h = found_start s
  found (suc t) s h =
      let two = states_two_halves code some in
      let here = pow_pos (code.width - 1) in
      let below = mod-lt s here in
      rw (met_at t s h, from_at t s h)
      (found_best code some gains t (s % half) (s / half) s below ((div-lt_iff_lt-mul here).1 (omega (arith, two)))
      (add_comm (s % half) (s / half * half) ∙ div-add-mod' s half) (word t) (old_at t)
      (found t (2 * (s % half)) (omega (arith, two))) (found t (2 * (s % half) + 1) (omega (arith, two))))

  -- a state without a total is one that no word leads to
  pub not_reached : (t s : ℕ) → s < 2 ^ code.width → get_or (mets t) s none ≡ none → (w : List ℕ) → Leads code t s w → ⊥
  not_reached t s h e = rw e at (found t s h)

  -- and the way back from a state with a total is the best word that leads there
  pub best_path :
      (t s : ℕ) (z : ℤ) → s < 2 ^ code.width → get_or (mets t) s none ≡ total z →
      Best code gains t s (traced wholes code froms t s) z
  best_path t s z h e = rw e at (found t s h)
