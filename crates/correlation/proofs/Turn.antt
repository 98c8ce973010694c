-- The turns of a step's loop are those of a butterfly by its correlations: each puts what two states lead to, and all of them come
-- to the step. Assumes nothing.
use mathlib.Core.Bool.{cond}
use mathlib.Core.List.{List}
use mathlib.Core.Path.{◌≡◌, refl}
use Prim.Native.Nat.{ℕ, ◌+◌, ◌*◌, ◌≤◌, ◌<◌}
use lib.Dec.{eqb}
use lib.ListN.{length, get_or, set}
use Rattle.best_path.specs.Inner.{LedTo}
use Rattle.best_path.specs.Step.{Cell}
use Rattle.best_path.proofs.Turns.{Paired, paired_starts, paired_mets, paired_froms, paired_goes_on}
use Rattle.trellis.specs.declared.ConvCode.{ConvCode}
use Rattle.trellis.specs.Inner.{Crossed}
use Rattle.trellis.specs.State.{window, parity_of}
use Rattle.correlation.specs.Arithmetic.{Kind}
use Rattle.correlation.specs.Gain.{correlation, brings}
use Rattle.correlation.specs.Inner.{Selects}
use Rattle.correlation.proofs.Sides.{Lawful, sum_correlates, opposite_correlates}

-- The invariant: after n turns s counts the states, and the lists hold what n turns of a reading's step store.
pub record Turns
    {A M : Type 0} (kind : Kind A M) (half : ℕ) (c0 c1 : List ℕ) (a b : A) (before : ℕ → M) (old : List M) (old_row : List ℕ)
    (next : List M) (row : List ℕ) (s n : ℕ) : Type 0 where
  pub paired : Paired kind.op (λ (code : ConvCode). brings kind.on code a b) half c0 c1 before old old_row next row s n

pub turns_start :
    {A M : Type 0} {kind : Kind A M} {half : ℕ} {c0 c1 : List ℕ} {a b : A} {before : ℕ → M} {old : List M} {old_row : List ℕ} →
    Turns kind half c0 c1 a b before old old_row old old_row 0 0
turns_start = record { paired = paired_starts }

module _
    {A M : Type 0} {kind : Kind A M} {half : ℕ} {c0 c1 : List ℕ} {a b : A} {before : ℕ → M} {old : List M} {old_row : List ℕ}
    {next : List M} {row : List ℕ} {s n : ℕ} (now : Turns kind half c0 c1 a b before old old_row next row s n) where
  pub turns_end :
      {code : ConvCode} → half ≤ n → Crossed code half c0 c1 → 2 * half ≤ length old → 2 * half ≤ length old_row →
      Selects kind code before a b (record { given = old; left = next }) (record { given = old_row; left = row })
  turns_end past crossed room room' =
      record {
        mets = paired_mets now.paired past crossed room;
        froms = paired_froms now.paired past crossed room';
      }

  by_pair :
      (code : ConvCode) (r i : ℕ) →
      brings kind.on code a b r i
      ≡ correlation kind.on a b (parity_of code.g0 (window code r i)) (parity_of code.g1 (window code r i))
  unfolding brings
  by_pair code r i = refl

  -- a turn, by what the calls in it say
  pub turns_go_on :
      Lawful kind.on → n < half → {x y : A} →
      x ≡ cond (eqb (get_or c0 n 0) 0) a (kind.on.negative a) →
      y ≡ cond (eqb (get_or c1 n 0) 0) b (kind.on.negative b) →
      {low high : Cell M} →
      LedTo kind.op (before (2 * n)) (before (2 * n + 1)) s (kind.on.plus x y) (kind.on.minus (kind.on.negative x) y) low high →
      {next' : List M} {row' : List ℕ} →
      next' ≡ set (set next n low.met) (n + half) high.met →
      row' ≡ set (set row n low.from) (n + half) high.from →
      Turns kind half c0 c1 a b before old old_row next' row' (s + 2) (n + 1)
  turns_go_on lawful h of_a of_b led e f =
      record {
        paired =
            paired_goes_on now.paired h (correlation kind.on a b) by_pair
            (λ bit0 bit1. sum_correlates lawful a b (get_or c0 n 0) (get_or c1 n 0) of_a of_b)
            (λ bit0 bit1. opposite_correlates lawful a b (get_or c0 n 0) (get_or c1 n 0) of_a of_b bit0 bit1)
            led e f;
      }
