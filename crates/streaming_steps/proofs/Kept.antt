-- One entry of the history at a time: the survivor of a state that a candidate won, and its old content otherwise. Assumes
-- nothing.
use mathlib.Core.Bool.{Bool, true, false, cond}
use mathlib.Core.List.{List}
use mathlib.Core.Path.{◌≡◌, refl, sym, ap, ◌∙◌}
use Prim.Native.Nat.{ℕ, ◌+◌, ◌^◌, ◌≤◌, ◌<◌}
use native.Mathlib.Nat.{le_antisymm}
use native.Mathlib.Numerals.{add-one}
use native.Mathlib.Omega.{arith}
use lib.Ieee.{Float, nan}
use lib.ListN.{length, get_or, set, length-set}
use lib.Seq.{set-get_or}
use Rattle.best_path.proofs.Survivors.{any-default}
use Rattle.butterflies.specs.Smallest.{mark, smallest}
use Rattle.trellis.specs.Choice.{k5}
use Rattle.streaming_steps.specs.Steps.{kept}
use Rattle.streaming_steps.specs.Inner.{RowAt, Keeps}

-- the survivor of a state of metric m, and the old entry where no candidate won
abbrev entry_of : Float → (new old : ℕ) → ℕ
entry_of m new old = cond (smallest.reached m) new old

-- writing the old content back changes nothing
set-either : (won : Bool) (l : List ℕ) (i new : ℕ) → set l i (cond won new (get_or l i 0)) ≡ cond won (set l i new) l
set-either true l i new = refl
set-either false l i new = set-get_or l i 0

kept_none : (mets : List Float) (froms : List ℕ) (at : ℕ) (h : List ℕ) → h ≡ kept mets froms at 0 h
unfolding kept
kept_none mets froms at h = refl

kept_next :
    (mets : List Float) (froms : List ℕ) (at s : ℕ) (h₀ h : List ℕ) → s < length mets → h ≡ kept mets froms at s h₀ →
    (v : ℕ) → v ≡ entry_of (get_or mets s nan) (get_or froms s 0) (get_or h (at + s) 0) →
    set h (at + s) v ≡ kept mets froms at (s + 1) h₀
unfolding kept
kept_next mets froms at s h₀ h inside so_far v e =
    let met = get_or mets s mark in
    let new = get_or froms s 0 in
    ap (set h (at + s)) (e ∙ ap (λ (m : Float). entry_of m new (get_or h (at + s) 0)) (any-default mets s nan mark inside))
    ∙ set-either (smallest.reached met) h (at + s) new
    ∙ ap (λ (l : List ℕ). cond (smallest.reached met) (set l (at + s) new) l) so_far
    ∙ sym (ap (λ (n : ℕ). kept mets froms at n h₀) (add-one s))

-- The invariant: the entries of the states below s are kept.
pub record Keeping (pm : List Float) (froms : List ℕ) (at : ℕ) (old : List ℕ) (s : ℕ) (history : List ℕ) : Type 0 where
  pub row : RowAt at
  pub few : s ≤ 2 ^ k5.width
  pub sized : length history ≡ length old
  pub entries : history ≡ kept pm froms at s old

module _ {pm : List Float} {froms : List ℕ} {at : ℕ} {old : List ℕ} where
  pub keeping_starts : RowAt at → Keeping pm froms at old 0 old
  keeping_starts row = record { row = row; few = omega arith; sized = refl; entries = kept_none pm froms at old }

  module _ {s : ℕ} {history : List ℕ} where
    pub keeping_goes_on :
        {v : ℕ} → Keeping pm froms at old s history → s < 2 ^ k5.width → s < length pm →
        v ≡ entry_of (get_or pm s nan) (get_or froms s 0) (get_or history (at + s) 0) →
        Keeping pm froms at old (s + 1) (set history (at + s) v)
    keeping_goes_on {v} so_far below inside e =
        record {
          row = so_far.row;
          few = omega arith;
          sized = length-set history (at + s) v ∙ so_far.sized;
          entries = kept_next pm froms at s old history inside so_far.entries v e;
        }

    pub keeping_ends :
        Keeping pm froms at old s history → 2 ^ k5.width ≤ s → Keeps pm froms at (record { given = old; left = history })
    keeping_ends so_far all =
        record { entries = so_far.entries ∙ ap (λ (n : ℕ). kept pm froms at n old) (le_antisymm so_far.few all) }
