-- What the later parts need of a step: only the metrics of the code's states are read, and each survivor is a state. Assumes nothing.
use mathlib.Core.Bool.{Bool, true, false, cond}
use mathlib.Core.List.{List, [], ◌∷◌}
use mathlib.Core.Path.{◌≡◌, refl, sym, subst, ◌∙◌}
use Prim.Native.Nat.{ℕ, zero, suc, ◌+◌, ◌-◌, ◌*◌, ◌/◌, ◌%◌, ◌^◌, ◌≤◌, ◌<◌}
use native.Mathlib.Nat.{add_comm, div-add-mod', div-lt_iff_lt-mul, mod-lt}
use native.Mathlib.Omega.{arith}
use lib.ListN.{length, get_or, length-map, get_or-map}
use lib.Pow.{pow_pos}
use Rattle.trellis.specs.declared.ConvCode.{ConvCode}
use Rattle.trellis.proofs.States.{states_two_halves}
use Rattle.best_path.specs.Metric.{Metric}
use Rattle.best_path.specs.Step.{Cell, unreached, relaxed, visit, visits, step, best}
use Rattle.best_path.specs.Run.{step_from, mets_after, survivors}
use Rattle.best_path.proofs.Visiting.{length-step, step_best}

module _ {M B : Type 0} (op : Metric M B) where
  -- of two ways to choose, whichever is taken
  chosen_from : (p q : Bool) (a z : Cell M) (n : ℕ) → a.from < n → z.from < n → (cond p (cond q a z) z).from < n
  chosen_from true true a z n h k = h
  chosen_from true false a z n h k = k
  chosen_from false q a z n h k = k

  relaxed_from : (z : Cell M) (m : M) (g : B) (s n : ℕ) → z.from < n → s < n → (relaxed op z m g s).from < n
  unfolding relaxed
  relaxed_from z m g s n h k =
      chosen_from (op.reached m) (op.better (op.add m g) z.met) (record { met = op.add m g; from = s }) z n k h

module _ {M B : Type 0} (op : Metric M B) (code : ConvCode) (some : 0 < code.width) (old : ℕ → M) (gain : ℕ → ℕ → B) where
  abbrev half : ℕ
  half = 2 ^ (code.width - 1)

  best_from : (k b : ℕ) → k < half → (best op code old gain k b).from < 2 ^ code.width
  unfolding best
  best_from k b h =
      let two = states_two_halves code some in
      relaxed_from op _ _ _ (2 * k + 1) (2 ^ code.width)
      (relaxed_from op (unreached op) _ _ (2 * k) (2 ^ code.width) (pow_pos code.width) (omega (arith, two)))
      (omega (arith, two))

  -- the new state n comes from the better of 2 * (n % half) and 2 * (n % half) + 1, on the input n / half
  pub step-at : (n : ℕ) → n < 2 ^ code.width → get_or (step op code old gain) n (unreached op) ≡ best op code old gain (n % half) (n / half)
  step-at n h =
      let two = states_two_halves code some in
      let here = pow_pos (code.width - 1) in
      subst (λ (i : ℕ). get_or (step op code old gain) i (unreached op) ≡ best op code old gain (n % half) (n / half))
      (add_comm (n % half) (n / half * half) ∙ div-add-mod' n half)
      (step_best op code some old gain (n % half) (n / half) (mod-lt n here) ((div-lt_iff_lt-mul here).1 (omega (arith, two))))

  pub step_from_lem : (n : ℕ) → n < 2 ^ code.width → (get_or (step op code old gain) n (unreached op)).from < 2 ^ code.width
  step_from_lem n h =
      subst (λ (c : Cell M). c.from < 2 ^ code.width) (sym (step-at n h))
      (best_from (n % half) (n / half) (mod-lt n (pow_pos (code.width - 1))))

-- only the metrics of the code's states are read
module _
    {M B : Type 0} (op : Metric M B) (code : ConvCode) (p q : ℕ → M) (gain : ℕ → ℕ → B)
    (same : (s : ℕ) → s < 2 ^ code.width → p s ≡ q s) where
  visits_same : (k : ℕ) → k ≤ 2 ^ code.width → visits op code p gain k ≡ visits op code q gain k
  unfolding visits visit
  visits_same zero h = refl
  visits_same (suc s) h = rw (same s h, visits_same s (omega arith))

  pub step_same : step op code p gain ≡ step op code q gain
  unfolding step
  step_same = visits_same (2 ^ code.width) (omega arith)

-- within a list the default is not seen
pub any-default : {A : Type 0} (list : List A) (i : ℕ) (d e : A) → i < length list → get_or list i d ≡ get_or list i e
any-default [] i d e h = absurd (omega (arith, h))
any-default (x ∷ xs) zero d e h = refl
any-default (x ∷ xs) (suc i) d e h = any-default xs i d e (omega arith)

-- so a step may be taken from a list that holds the metrics, with any default
pub step_held :
    {M B : Type 0} (op : Metric M B) (code : ConvCode) (mets : List M) (d : M) (gain : ℕ → ℕ → B) →
    2 ^ code.width ≤ length mets → step op code (λ (s : ℕ). get_or mets s d) gain ≡ step_from op code mets gain
unfolding step_from
step_held op code mets d gain room =
    step_same op code (λ (s : ℕ). get_or mets s d) (λ (s : ℕ). get_or mets s op.mark) gain
    (λ s h. any-default mets s d op.mark (omega arith))

-- ---- several steps

module _ {M B : Type 0} (op : Metric M B) (code : ConvCode) (some : 0 < code.width) (gains : ℕ → ℕ → ℕ → B) (start : List M) where
  abbrev old_at : ℕ → ℕ → M
  old_at t s = get_or (mets_after op code gains start t) s op.mark

  abbrev cells : ℕ → List (Cell M)
  cells t = step op code (old_at t) (gains t)

  abbrev from_of : Cell M → ℕ
  from_of c = c.from

  abbrev met_of : Cell M → M
  met_of c = c.met

  pub length-survivors : (t : ℕ) → length (survivors op code gains start t) ≡ 2 ^ code.width
  unfolding survivors step_from
  length-survivors t = length-map (cells t) from_of ∙ length-step op code some (old_at t) (gains t)

  pub length-mets : (t : ℕ) → length (mets_after op code gains start (suc t)) ≡ 2 ^ code.width
  unfolding mets_after step_from
  length-mets t = length-map (cells t) met_of ∙ length-step op code some (old_at t) (gains t)

  -- the way back goes from state to state
  pub survivor_below : (t s : ℕ) → s < 2 ^ code.width → get_or (survivors op code gains start t) s 0 < 2 ^ code.width
  unfolding survivors step_from
  survivor_below t s h =
      subst (λ (n : ℕ). n < 2 ^ code.width) (sym (get_or-map from_of (cells t) s (unreached op)))
      (step_from_lem op code some (old_at t) (gains t) s h)
