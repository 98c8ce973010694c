-- Two metrics that agree step by step have runs that agree: the same states are reached, with metrics that belong together,
-- and the survivors and the way back over them are the same. Assumes nothing.
use mathlib.Core.Bool.{Bool, true, false, cond}
use mathlib.Core.List.{List, [], ◌∷◌, ◌++◌}
use mathlib.Core.Path.{◌≡◌, refl, sym, ap, ◌∙◌}
use Prim.Native.Nat.{ℕ, zero, suc, ◌+◌, ◌-◌, ◌*◌, ◌/◌, ◌%◌, ◌^◌, ◌≤◌, ◌<◌}
use native.Mathlib.Nat.{div-lt_iff_lt-mul, mod-lt}
use native.Mathlib.Omega.{arith}
use lib.ListN.{get_or, get_or-map}
use lib.Pow.{pow_pos}
use lib.Seq.{ext_get_or}
use Rattle.trellis.specs.declared.ConvCode.{ConvCode}
use Rattle.trellis.proofs.States.{states_two_halves}
use Rattle.best_path.specs.Metric.{Metric}
use Rattle.best_path.specs.Step.{Cell, unreached, relaxed, step, best}
use Rattle.best_path.specs.Run.{step_from, mets_after, survivors, traced, input_into}
use Rattle.best_path.proofs.Survivors.{step-at, length-survivors}

-- R t says which metrics belong together after t steps. Of the branches, only those from states that are reached have to agree.
pub record Simulates
    {M₁ B₁ M₂ B₂ : Type 0} (op₁ : Metric M₁ B₁) (op₂ : Metric M₂ B₂) (code : ConvCode) (gains₁ : ℕ → ℕ → ℕ → B₁) (gains₂ : ℕ → ℕ → ℕ → B₂)
    (start₁ : List M₁) (start₂ : List M₂) (R : ℕ → M₁ → M₂ → Type 0) (steps : ℕ) : Type 0 where
  pub marks : (t : ℕ) → R t op₁.mark op₂.mark
  pub start : (s : ℕ) → s < 2 ^ code.width → R 0 (get_or start₁ s op₁.mark) (get_or start₂ s op₂.mark)
  pub reached : (t : ℕ) → t < steps → (m₁ : M₁) (m₂ : M₂) → R t m₁ m₂ → op₁.reached m₁ ≡ op₂.reached m₂
  pub added :
      (t s b : ℕ) → t < steps → s < 2 ^ code.width → b < 2 → (m₁ : M₁) (m₂ : M₂) → R t m₁ m₂ → op₁.reached m₁ ≡ true →
      R (suc t) (op₁.add m₁ (gains₁ t s b)) (op₂.add m₂ (gains₂ t s b))
  pub better :
      (t : ℕ) → t ≤ steps → (x₁ y₁ : M₁) (x₂ y₂ : M₂) → R t x₁ x₂ → R t y₁ y₂ → op₁.better x₁ y₁ ≡ op₂.better x₂ y₂

-- ---- one branch

record Alike {M₁ M₂ : Type 0} (New : M₁ → M₂ → Type 0) (c₁ : Cell M₁) (c₂ : Cell M₂) : Type 0 where
  met : New c₁.met c₂.met
  from : c₁.from ≡ c₂.from

chosen_alike :
    {M₁ M₂ : Type 0} {New : M₁ → M₂ → Type 0} (q : Bool) {a₁ z₁ : Cell M₁} {a₂ z₂ : Cell M₂} → Alike New a₁ a₂ → Alike New z₁ z₂ →
    Alike New (cond q a₁ z₁) (cond q a₂ z₂)
chosen_alike true h k = h
chosen_alike false h k = k

module _
    {M₁ B₁ M₂ B₂ : Type 0} (op₁ : Metric M₁ B₁) (op₂ : Metric M₂ B₂) (New : M₁ → M₂ → Type 0)
    (better : (x₁ y₁ : M₁) (x₂ y₂ : M₂) → New x₁ x₂ → New y₁ y₂ → op₁.better x₁ y₁ ≡ op₂.better x₂ y₂) where
  relaxed_alike :
      (z₁ : Cell M₁) (z₂ : Cell M₂) (m₁ : M₁) (m₂ : M₂) (g₁ : B₁) (g₂ : B₂) (s : ℕ) → Alike New z₁ z₂ → op₁.reached m₁ ≡ op₂.reached m₂ →
      (op₁.reached m₁ ≡ true → New (op₁.add m₁ g₁) (op₂.add m₂ g₂)) → Alike New (relaxed op₁ z₁ m₁ g₁ s) (relaxed op₂ z₂ m₂ g₂ s)
  unfolding relaxed
  relaxed_alike z₁ z₂ m₁ m₂ g₁ g₂ s alike same sum = go (op₁.reached m₁) refl
    where
      go : (p : Bool) → op₁.reached m₁ ≡ p → Alike New (relaxed op₁ z₁ m₁ g₁ s) (relaxed op₂ z₂ m₂ g₂ s)
      go true h =
          rw (h, sym same ∙ h, better _ _ _ _ (sum h) alike.met)
          (chosen_alike (op₂.better (op₂.add m₂ g₂) z₂.met) (record { met = sum h; from = refl }) alike)
      go false h = rw (h, sym same ∙ h) alike

-- ---- the way back

-- it looks at the survivors of the steps behind it only, and at no metric
pub traced_same :
    {M₁ B₁ M₂ B₂ : Type 0} (op₁ : Metric M₁ B₁) (op₂ : Metric M₂ B₂) (code : ConvCode) (f g : ℕ → List ℕ) (t s : ℕ) →
    ((i : ℕ) → i < t → f i ≡ g i) → traced op₁ code f t s ≡ traced op₂ code g t s
unfolding traced
traced_same op₁ op₂ code f g zero s same = refl
traced_same op₁ op₂ code f g (suc t) s same =
    ap (λ (l : List ℕ). l ++ input_into op₁ code s ∷ [])
    (ap (λ (row : List ℕ). traced op₁ code f t (get_or row s 0)) (same t (omega arith))
    ∙ traced_same op₁ op₂ code f g t (get_or (g t) s 0) (λ i h. same i (omega arith)))

-- ---- the runs

module _
    {M₁ B₁ M₂ B₂ : Type 0} {op₁ : Metric M₁ B₁} {op₂ : Metric M₂ B₂} {code : ConvCode} {gains₁ : ℕ → ℕ → ℕ → B₁} {gains₂ : ℕ → ℕ → ℕ → B₂}
    {start₁ : List M₁} {start₂ : List M₂} {R : ℕ → M₁ → M₂ → Type 0} {steps : ℕ} (some : 0 < code.width)
    (sim : Simulates op₁ op₂ code gains₁ gains₂ start₁ start₂ R steps) where
  abbrev half : ℕ
  half = 2 ^ (code.width - 1)

  abbrev old₁ : ℕ → ℕ → M₁
  old₁ t s = get_or (mets_after op₁ code gains₁ start₁ t) s op₁.mark

  abbrev old₂ : ℕ → ℕ → M₂
  old₂ t s = get_or (mets_after op₂ code gains₂ start₂ t) s op₂.mark

  abbrev cells₁ : ℕ → List (Cell M₁)
  cells₁ t = step op₁ code (old₁ t) (gains₁ t)

  abbrev cells₂ : ℕ → List (Cell M₂)
  cells₂ t = step op₂ code (old₂ t) (gains₂ t)

  module _ (t : ℕ) (within : t < steps) (held : (s : ℕ) → s < 2 ^ code.width → R t (old₁ t s) (old₂ t s)) where
    abbrev AlikeNow : Cell M₁ → Cell M₂ → Type 0
    AlikeNow = Alike (R (suc t))

    branch_alike :
        (s b : ℕ) (z₁ : Cell M₁) (z₂ : Cell M₂) → s < 2 ^ code.width → b < 2 → AlikeNow z₁ z₂ →
        AlikeNow (relaxed op₁ z₁ (old₁ t s) (gains₁ t s b) s) (relaxed op₂ z₂ (old₂ t s) (gains₂ t s b) s)
    branch_alike s b z₁ z₂ h g alike =
        relaxed_alike op₁ op₂ (R (suc t)) (sim.better (suc t) within) z₁ z₂ (old₁ t s) (old₂ t s) (gains₁ t s b) (gains₂ t s b) s alike
        (sim.reached t within (old₁ t s) (old₂ t s) (held s h)) (sim.added t s b within h g (old₁ t s) (old₂ t s) (held s h))

    best_alike :
        (k b : ℕ) → k < half → b < 2 → AlikeNow (best op₁ code (old₁ t) (gains₁ t) k b) (best op₂ code (old₂ t) (gains₂ t) k b)
    unfolding best
    best_alike k b h g =
        let two = states_two_halves code some in
        branch_alike (2 * k + 1) b _ _ (omega (arith, two)) g
        (branch_alike (2 * k) b (unreached op₁) (unreached op₂) (omega (arith, two)) g (record { met = sim.marks (suc t); from = refl }))

    cell_alike : (s : ℕ) → s < 2 ^ code.width → AlikeNow (get_or (cells₁ t) s (unreached op₁)) (get_or (cells₂ t) s (unreached op₂))
    cell_alike s h =
        let two = states_two_halves code some in
        let here = pow_pos (code.width - 1) in
        rw (step-at op₁ code some (old₁ t) (gains₁ t) s h, step-at op₂ code some (old₂ t) (gains₂ t) s h)
        (best_alike (s % half) (s / half) (mod-lt s here) ((div-lt_iff_lt-mul here).1 (omega (arith, two))))

  -- metrics that belong together, at every state
  pub mets_agree : (t s : ℕ) → t ≤ steps → s < 2 ^ code.width → R t (old₁ t s) (old₂ t s)
  unfolding mets_after step_from
  mets_agree zero s within h = sim.start s h
  mets_agree (suc t) s within h =
      rw (
        get_or-map (λ (c : Cell M₁). c.met) (cells₁ t) s (unreached op₁),
        get_or-map (λ (c : Cell M₂). c.met) (cells₂ t) s (unreached op₂),
      )
      (cell_alike t within (λ r g. mets_agree t r (omega arith) g) s h).met

  pub survivors_agree : (t : ℕ) → t < steps → survivors op₁ code gains₁ start₁ t ≡ survivors op₂ code gains₂ start₂ t
  unfolding survivors step_from
  survivors_agree t within =
      let sized₁ = length-survivors op₁ code some gains₁ start₁ t in
      let sized₂ = length-survivors op₂ code some gains₂ start₂ t in
      ext_get_or 0 _ _ (sized₁ ∙ sym sized₂)
      (λ s h. get_or-map (λ (c : Cell M₁). c.from) (cells₁ t) s (unreached op₁)
      ∙ (cell_alike t within (λ r g. mets_agree t r (omega arith) g) s (omega arith)).from
      ∙ sym (get_or-map (λ (c : Cell M₂). c.from) (cells₂ t) s (unreached op₂)))

  pub traced_agree :
      (t s : ℕ) → t ≤ steps →
      traced op₁ code (survivors op₁ code gains₁ start₁) t s ≡ traced op₂ code (survivors op₂ code gains₂ start₂) t s
  traced_agree t s within = traced_same op₁ op₂ code _ _ t s (λ i h. survivors_agree i (omega arith))
