-- The way back, one row at a time: what is left to do is what it was at the start. Assumes nothing.
use mathlib.Core.List.{List}
use mathlib.Core.Path.{◌≡◌, refl, sym, ap, ◌∙◌}
use Prim.Native.Nat.{ℕ, suc, ◌+◌, ◌-◌, ◌*◌, ◌%◌, ◌^◌, ◌≤◌, ◌<◌}
use native.Mathlib.Nat.{mul_comm, mod-lt}
use native.Mathlib.Omega.{arith}
use lib.Dec.{lit<}
use lib.ListN.{get_or}
use Rattle.trellis.specs.Choice.{k5}
use Rattle.streaming_steps.specs.Steps.{lag, row_before, behind}
use Rattle.streaming_steps.specs.Inner.{InHistory, LiesBehind}

behind_none : (states : ℕ) (history : List ℕ) (row s n i : ℕ) → n ≤ i → behind states history row (n - i) s ≡ s
unfolding behind
behind_none states history row s n i h =
    let none_left : n - i ≡ 0 = omega arith in
    ap (λ (m : ℕ). behind states history row m s) none_left

behind_next :
    (states : ℕ) (history : List ℕ) (row s n i : ℕ) → i < n →
    behind states history (row_before row) (n - (i + 1)) (get_or history (states * row + s) 0 % states)
    ≡ behind states history row (n - i) s
unfolding behind
behind_next states history row s n i h =
    let one_more : n - i ≡ suc (n - (i + 1)) = omega arith in
    ap (λ (at : ℕ). behind states history (row_before row) (n - (i + 1)) (get_or history (at + s) 0 % states)) (mul_comm states row)
    ∙ sym (ap (λ (m : ℕ). behind states history row m s) one_more)

-- The invariant after i steps from a row and a state.
pub record GoingBack (history : List ℕ) (row s i row' s' : ℕ) : Type 0 where
  pub few : i ≤ lag
  pub here : InHistory row' s'
  pub rest : behind (2 ^ k5.width) history row' (lag - i) s' ≡ behind (2 ^ k5.width) history row lag s

pub going_back_starts : {history : List ℕ} {row s : ℕ} → InHistory row s → GoingBack history row s 0 row s
going_back_starts here = record { few = omega arith; here = here; rest = refl }

module _ {history : List ℕ} {row s i row' s' : ℕ} where
  pub going_back_goes_on :
      GoingBack history row s i row' s' → i < lag →
      GoingBack history row s (i + 1) (row_before row') (get_or history (2 ^ k5.width * row' + s') 0 % 2 ^ k5.width)
  going_back_goes_on so_far h =
      record {
        few = omega arith;
        here = record { row_kept = mod-lt _ (lit< tt); state_known = mod-lt _ (lit< tt) };
        rest = behind_next (2 ^ k5.width) history row' s' lag i h ∙ so_far.rest;
      }

  pub going_back_ends : GoingBack history row s i row' s' → lag ≤ i → LiesBehind history row s s'
  going_back_ends so_far h =
      record {
        lies = sym (behind_none (2 ^ k5.width) history row' s' lag i h) ∙ so_far.rest;
        state_known = so_far.here.state_known;
      }
