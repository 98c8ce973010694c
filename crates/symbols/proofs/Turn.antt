-- The turns of a step's loop are those of a butterfly by its costs: each puts what two states lead to, and all of them come to the
-- step. Assumes nothing.
use mathlib.Core.List.{List, ◌++◌, append-nil}
use mathlib.Core.Path.{◌≡◌, refl, ap, ◌∙◌}
use Prim.Native.Nat.{ℕ, ◌+◌, ◌*◌, ◌^◌, ◌≤◌, ◌<◌}
use native.Mathlib.Omega.{arith}
use lib.Ieee.{Float, nan}
use lib.ListN.{length, get_or, set, drop_of_length-le}
use Rattle.best_path.specs.declared.pair.Wing.{Wing}
use Rattle.best_path.specs.Pair.{Summed}
use Rattle.butterflies.specs.Orderly.{floats_held}
use Rattle.best_path.proofs.Turns.{Paired, paired_starts, paired_mets, paired_froms, paired_goes_on}
use Rattle.trellis.specs.declared.ConvCode.{ConvCode}
use Rattle.trellis.specs.Inner.{Crossed}
use Rattle.trellis.specs.State.{window, parity_of}
use Rattle.trellis.proofs.States.{states_two_halves}
use Rattle.butterflies.specs.Smallest.{smallest}
use Rattle.symbols.specs.Costs.{cost, costs, phasor_of}
use Rattle.symbols.specs.Inner.{half, Priced, pair_cost, opposite, new_mets, Selects}
use Rattle.symbols.specs.declared.phasors.Prices.{Prices}
use Rattle.symbols.proofs.Prices.{pair_cost_lem, opposite_cost}

-- The invariant: after n turns s counts the states, and the lists hold what n turns of a symbol's step store.
pub record Turns
    (c0 c1 : List ℕ) (re im : Float) (pm old : List Float) (old_row : List ℕ) (next : List Float) (row : List ℕ) (s n : ℕ)
    : Type 0 where
  pub paired :
      Paired smallest (λ (code : ConvCode). costs code re im) half c0 c1 (λ (r : ℕ). get_or pm r nan) old old_row next row s n

pub turns_start :
    {c0 c1 : List ℕ} {re im : Float} {pm old : List Float} {old_row : List ℕ} → Turns c0 c1 re im pm old old_row old old_row 0 0
turns_start = record { paired = paired_starts }

module _
    {c0 c1 : List ℕ} {re im : Float} {pm old : List Float} {old_row : List ℕ} {next : List Float} {row : List ℕ} {s n : ℕ}
    (now : Turns c0 c1 re im pm old old_row next row s n) where
  pub turns_end :
      {code : ConvCode} → half ≤ n → Crossed code half c0 c1 → length old ≡ 2 * half → 2 * half ≤ length old_row →
      Selects code pm re im (record { given = old; left = next }) (record { given = old_row; left = row })
  turns_end {code} past crossed sized room =
      let two = states_two_halves code crossed.some in
      let nothing = drop_of_length-le old {i = 2 ^ code.width} (omega (arith, two, crossed.halved, sized)) in
      record {
        mets =
            paired_mets now.paired past crossed (omega (arith, sized))
            ∙ ap (λ (l : List Float). new_mets code pm re im ++ l) nothing
            ∙ append-nil (new_mets code pm re im);
        froms = paired_froms now.paired past crossed room;
      }

  by_pair :
      (code : ConvCode) (r i : ℕ) →
      costs code re im r i ≡ cost re im (phasor_of (parity_of code.g0 (window code r i)) (parity_of code.g1 (window code r i)))
  unfolding costs
  by_pair code r i = refl

  -- a turn, by what the calls in it say
  pub turns_go_on :
      n < half → {r : Prices} → Priced re im r → {x y : Float} →
      x ≡ pair_cost (get_or c0 n 0) (get_or c1 n 0) r → y ≡ pair_cost (get_or c0 n 0) (get_or c1 n 0) (opposite r) →
      {w : Wing Float} → Summed (floats_held smallest) (get_or pm (2 * n) nan) (get_or pm (2 * n + 1) nan) s x y w →
      {next' : List Float} {row' : List ℕ} →
      next' ≡ set (set next n w.low.met) (n + half) w.high.met →
      row' ≡ set (set row n w.low.from) (n + half) w.high.from →
      Turns c0 c1 re im pm old old_row next' row' (s + 2) (n + 1)
  turns_go_on h {r} priced of_x of_y summed e f =
      record {
        paired =
            paired_goes_on now.paired h (λ (p q : ℕ). cost re im (phasor_of p q)) by_pair
            (λ bit0 bit1. of_x ∙ pair_cost_lem re im r priced (get_or c0 n 0) (get_or c1 n 0) bit0 bit1)
            (λ bit0 bit1. of_y ∙ opposite_cost re im r priced (get_or c0 n 0) (get_or c1 n 0) bit0 bit1)
            summed.led e f;
      }
