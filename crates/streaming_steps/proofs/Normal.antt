-- Normalisation, one metric at a time. Assumes nothing.
use mathlib.Core.Bool.{true, false, cond}
use mathlib.Core.List.{List, [], ◌∷◌, map}
use mathlib.Core.Path.{◌≡◌, refl, sym, ap, ap₂, ◌∙◌}
use Prim.Native.Nat.{ℕ, zero, suc, ◌+◌, ◌%◌, ◌^◌, ◌-◌, ◌<◌, ◌≤◌}
use native.Mathlib.Nat.{le_antisymm}
use native.Mathlib.Numerals.{add-one}
use native.Mathlib.Omega.{arith}
use borrow.Author.Tests.{eq-eqb, ne_eqb}
use lib.Dec.{eqb}
use lib.Ieee.{Float, nan, lt}
use lib.ListN.{length, get_or, set, length-set}
use Rattle.best_path.proofs.Candidates.{where_true, where_false}
use Rattle.best_path.proofs.Survivors.{any-default}
use Rattle.f32s.specs.Single.{zero32}
use Rattle.butterflies.specs.Smallest.{mark}
use Rattle.trellis.specs.Choice.{k5}
use Rattle.streaming_steps.specs.declared.Front.{Front}
use Rattle.streaming_steps.specs.Steps.{turns, least_of, lowered, normalised}
use Rattle.streaming_steps.specs.Inner.{NormalisedAfter}

-- ---- the least metric

-- The invariant: `least` is the least of the states below s.
pub record LeastBelow (mets : List Float) (s : ℕ) (least : Float) : Type 0 where
  pub few : s ≤ 2 ^ k5.width
  pub is : least ≡ least_of mets s

pub least_starts : {mets : List Float} → LeastBelow mets 0 mark
unfolding least_of
least_starts = record { few = omega arith; is = refl }

module _ {mets : List Float} {s : ℕ} {least : Float} where
  pub least_goes_on :
      {new : Float} → LeastBelow mets s least → s < 2 ^ k5.width → s < length mets →
      new ≡ cond (lt (get_or mets s nan) least) (get_or mets s nan) least → LeastBelow mets (s + 1) new
  unfolding least_of
  least_goes_on so_far below inside e =
      record {
        few = omega arith;
        is =
            e
            ∙ ap₂ (λ (m l : Float). cond (lt m l) m l) (any-default mets s nan mark inside) so_far.is
            ∙ sym (ap (least_of mets) (add-one s));
      }

  pub least_ends : LeastBelow mets s least → 2 ^ k5.width ≤ s → least ≡ least_of mets (2 ^ k5.width)
  least_ends so_far all = so_far.is ∙ ap (least_of mets) (le_antisymm so_far.few all)

-- ---- a function on the first n elements of a list

module _ {A : Type 0} (f : A → A) where
  unfoldable pub map_first : ℕ → List A → List A
  map_first zero l = l
  map_first (suc n) [] = []
  map_first (suc n) (x ∷ xs) = f x ∷ map_first n xs

  map_first-none : (l : List A) → l ≡ map_first zero l
  unfolding map_first
  map_first-none l = refl

  map_first-all : (l : List A) (n : ℕ) → length l ≤ n → map_first n l ≡ map f l
  unfolding map_first
  map_first-all [] zero h = refl
  map_first-all [] (suc n) h = refl
  map_first-all (x ∷ xs) zero h = absurd (omega arith)
  map_first-all (x ∷ xs) (suc n) h = ap (λ (l : List A). f x ∷ l) (map_first-all xs n (omega arith))

  map_first-set :
      (l : List A) (n : ℕ) (d : A) → n < length l → set (map_first n l) n (f (get_or (map_first n l) n d)) ≡ map_first (suc n) l
  unfolding map_first
  map_first-set [] n d h = absurd (omega arith)
  map_first-set (x ∷ xs) zero d h = refl
  map_first-set (x ∷ xs) (suc n) d h = ap (λ (l : List A). f x ∷ l) (map_first-set xs n d (omega arith))

  map_first-next :
      (l now : List A) (n : ℕ) (d v : A) → n < length l → now ≡ map_first n l → v ≡ f (get_or now n d) →
      set now n v ≡ map_first (n + 1) l
  map_first-next l now n d v h so_far e =
      ap (set now n) e
      ∙ ap (λ (k : List A). set k n (f (get_or k n d))) so_far
      ∙ map_first-set l n d h
      ∙ ap (λ (m : ℕ). map_first m l) (sym (add-one n))

-- ---- subtracted, or not

-- The invariant: the metrics of the states below s are lowered.
pub record Lowering (old : List Float) (least : Float) (s : ℕ) (pm : List Float) : Type 0 where
  pub few : s ≤ 2 ^ k5.width
  pub sized : length pm ≡ length old
  pub first : pm ≡ map_first (lowered least) s old

pub lowering_starts : {old : List Float} {least : Float} → Lowering old least 0 old
lowering_starts {old} {least} = record { few = omega arith; sized = refl; first = map_first-none (lowered least) old }

module _ {old : List Float} {least : Float} {s : ℕ} {pm : List Float} where
  pub lowering_goes_on :
      {v : Float} → Lowering old least s pm → s < 2 ^ k5.width → s < length old → v ≡ lowered least (get_or pm s nan) →
      Lowering old least (s + 1) (set pm s v)
  lowering_goes_on {v} so_far below inside e =
      record {
        few = omega arith;
        sized = length-set pm s v ∙ so_far.sized;
        first = map_first-next (lowered least) old pm s nan v inside so_far.first e;
      }

  pub lowering_ends :
      Lowering old least s pm → length old ≤ s → least ≡ least_of old (2 ^ k5.width) → lt zero32 least ≡ true →
      pm ≡ normalised (2 ^ k5.width) old
  unfolding normalised
  lowering_ends so_far all e above =
      let lowers : pm ≡ map (lowered least) old = so_far.first ∙ map_first-all (lowered least) old s all in
      cc

pub none_subtracted :
    {mets : List Float} {least : Float} → least ≡ least_of mets (2 ^ k5.width) → lt zero32 least ≡ false →
    mets ≡ normalised (2 ^ k5.width) mets
unfolding normalised
none_subtracted e above = cc

-- ---- when it is due

pub normalised_when_due :
    {turn : ℕ} {front : Front} {pm : List Float} → turn ≡ turns - 1 → pm ≡ normalised (2 ^ k5.width) front.pm →
    NormalisedAfter turn front (record { pm = pm; count = front.count; turn = front.turn })
normalised_when_due {turn} e lowers =
    let due = eqb (turn % turns) (turns - 1) in
    record { pm = lowers ∙ where_true due _ _ (eq-eqb (turn % turns) (turns - 1) (omega arith)); count = refl; turn = refl }

pub as_it_came : {turn : ℕ} {front : Front} → turn < turns → (turn ≡ turns - 1 → ⊥) → NormalisedAfter turn front front
as_it_came {turn} h other =
    let due = eqb (turn % turns) (turns - 1) in
    record { pm = where_false due _ _ (ne_eqb (turn % turns) (turns - 1) (λ e. other (omega arith))); count = refl; turn = refl }
