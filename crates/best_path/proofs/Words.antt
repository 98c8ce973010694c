-- Words as paths, an input at a time: with one input more the states and the gain are those of the word and one more, and a
-- word that leads to a state is one that leads to a predecessor, with the state's input after it. Assumes nothing.
use mathlib.Core.List.{List, [], ◌∷◌, ◌++◌}
use mathlib.Core.Logic.{◌⊎◌, inl, inr, ⊎_elim}
use mathlib.Core.Path.{◌≡◌, refl, sym, ap, ap₂, ◌∙◌}
use Prim.Native.Nat.{ℕ, zero, suc, ◌+◌, ◌-◌, ◌*◌, ◌^◌, ◌≤◌, ◌<◌}
use native.Mathlib.Nat.{le_refl}
use native.Mathlib.Omega.{arith}
use lib.Dec.{lit<}
use lib.IntN.{ℤ, ◌+ℤ◌}
use lib.ListN.{get_or, take, length-append, get_or-append}
use lib.Seq.{length-take-le, take_all, take-suc, get_or_at, get_or-take}
use Rattle.trellis.specs.declared.ConvCode.{ConvCode}
use Rattle.trellis.specs.State.{next_state, state_after}
use Rattle.trellis.proofs.States.{Inputs, comes_from, state_below}
use Rattle.best_path.specs.Path.{Leads, gained, passes}

-- ---- inputs are bits

pub append_inputs : (v w : List ℕ) → Inputs v → Inputs w → Inputs (v ++ w)
append_inputs [] w h k i = k i
append_inputs (b ∷ v) w h k zero = h 0
append_inputs (b ∷ v) w h k (suc i) = append_inputs v w (λ j. h (suc j)) k i

pub take-inputs : (t : ℕ) (w : List ℕ) → Inputs w → Inputs (take t w)
take-inputs zero w h i = lit< tt
take-inputs (suc t) [] h i = lit< tt
take-inputs (suc t) (b ∷ w) h zero = h 0
take-inputs (suc t) (b ∷ w) h (suc i) = take-inputs t w (λ j. h (suc j)) i

pub one_input : (b : ℕ) → b < 2 → Inputs (b ∷ [])
one_input b h zero = h
one_input b h (suc i) = lit< tt

-- ---- a path is that of the inputs so far

module _ (code : ConvCode) (v w : List ℕ) (n : ℕ) (same : (i : ℕ) → i < n → get_or v i 0 ≡ get_or w i 0) where
  state_same : (t : ℕ) → t ≤ n → state_after code v t ≡ state_after code w t
  unfolding state_after
  state_same zero h = refl
  state_same (suc t) h = ap₂ (next_state code) (state_same t (omega arith)) (same t h)

  gained_same : (gains : ℕ → ℕ → ℕ → ℤ) (t : ℕ) → t ≤ n → gained code gains v t ≡ gained code gains w t
  unfolding gained
  gained_same gains zero h = refl
  gained_same gains (suc t) h =
      ap₂ ◌+ℤ◌ (gained_same gains t (omega arith)) (ap₂ (gains t) (state_same t (omega arith)) (same t h))

  passes_same : (t : ℕ) → t ≤ n → passes code v t ≡ passes code w t
  unfolding passes
  passes_same zero h = refl
  passes_same (suc t) h = ap₂ ◌∷◌ (state_same (suc t) h) (passes_same t (omega arith))

-- ---- one input more

module _ (code : ConvCode) (b : ℕ) {t s : ℕ} {v : List ℕ} (on : Leads code t s v) where
  abbrev longer : List ℕ
  longer = v ++ b ∷ []

  last_input : get_or longer t 0 ≡ b
  last_input = get_or_at v b [] 0 t on.sized

  inputs_before : (i : ℕ) → i < t → get_or longer i 0 ≡ get_or v i 0
  inputs_before i h = get_or-append v (b ∷ []) 0 i (omega (arith, on.sized))

  state_before : state_after code longer t ≡ s
  state_before = state_same code longer v t inputs_before t (le_refl t) ∙ on.ends

  longer_ends : state_after code longer (suc t) ≡ next_state code s b
  unfolding state_after
  longer_ends = ap₂ (next_state code) state_before last_input

  pub longer_gained : (gains : ℕ → ℕ → ℕ → ℤ) → gained code gains longer (suc t) ≡ gained code gains v t +ℤ gains t s b
  unfolding gained
  longer_gained gains =
      ap₂ ◌+ℤ◌ (gained_same code longer v t inputs_before gains t (le_refl t)) (ap₂ (gains t) state_before last_input)

  pub longer_passes : passes code longer (suc t) ≡ next_state code s b ∷ passes code v t
  unfolding passes
  longer_passes = ap₂ ◌∷◌ longer_ends (passes_same code longer v t inputs_before t (le_refl t))

  pub longer_leads : b < 2 → Leads code (suc t) (next_state code s b) longer
  longer_leads h =
      record {
        sized = length-append v (b ∷ []) ∙ omega (arith, on.sized);
        bits = append_inputs v (b ∷ []) on.bits (one_input b h);
        ends = longer_ends;
      }

-- ---- one input less

-- the input b after a word that leads to 2k or to 2k + 1
pub record Longer (code : ConvCode) (t k b : ℕ) (w : List ℕ) : Type 0 where
  pub front : List ℕ
  pub is : w ≡ front ++ b ∷ []
  pub front_leads : Leads code t (2 * k) front ⊎ Leads code t (2 * k + 1) front

module _ (code : ConvCode) (some : 0 < code.width) {t n : ℕ} {w : List ℕ} (on : Leads code (suc t) n w) where
  front_is : w ≡ take t w ++ get_or w t 0 ∷ []
  front_is = sym (take_all (suc t) w (omega (arith, on.sized))) ∙ take-suc w t 0 (omega (arith, on.sized))

  front_leads_to : (s : ℕ) → state_after code w t ≡ s → Leads code t s (take t w)
  front_leads_to s e =
      record {
        sized = length-take-le t w (omega (arith, on.sized));
        bits = take-inputs t w on.bits;
        ends = state_same code (take t w) w t (λ i h. get_or-take t w i 0 h) t (le_refl t) ∙ e;
      }

  last_step : next_state code (state_after code w t) (get_or w t 0) ≡ n
  unfolding state_after
  last_step = on.ends

  pub leads_longer : (k b : ℕ) → k < 2 ^ (code.width - 1) → k + b * 2 ^ (code.width - 1) ≡ n → Longer code t k b w
  leads_longer k b h e =
      let from = comes_from code some (state_after code w t) (get_or w t 0) k b (state_below code some w on.bits t) h (last_step ∙ sym e) in
      record {
        front = take t w;
        is = front_is ∙ ap (λ (c : ℕ). take t w ++ c ∷ []) from.0;
        front_leads = ⊎_elim (λ q. inl (front_leads_to (2 * k) q)) (λ q. inr (front_leads_to (2 * k + 1) q)) from.1;
      }
