-- The turns of a butterfly's loop: turn n stores what the states 2n and 2n + 1 lead to, and all of them come to a step. Over any
-- metric and code, and whatever a code's branches bring, where a coded pair says it. Assumes nothing.
use mathlib.Core.List.{List, ◌++◌, map}
use mathlib.Core.Path.{◌≡◌, refl, ap, ◌∙◌}
use Prim.Native.Nat.{ℕ, ◌+◌, ◌-◌, ◌*◌, ◌^◌, ◌≤◌, ◌<◌}
use native.Mathlib.Omega.{arith}
use lib.ListN.{length, get_or, set, drop, length-set}
use Rattle.trellis.specs.declared.ConvCode.{ConvCode}
use Rattle.trellis.specs.Inner.{Crossed}
use Rattle.trellis.specs.State.{window, parity_of}
use Rattle.trellis.proofs.States.{states_two_halves}
use Rattle.best_path.specs.Metric.{Metric}
use Rattle.best_path.specs.Inner.{LedTo}
use Rattle.best_path.specs.Step.{Cell, step, best}
use Rattle.best_path.proofs.Butterfly.{crossed_bits, wing_best}
use Rattle.best_path.proofs.Stored.{met_of, cell_from, stored, stored_none, stored_turn, stored_step}

-- `of` some part of the best way into the state k on the input 0, and into k + half on the input 1
abbrev best_of :
    {M B A : Type 0} → (Cell M → A) → Metric M B → (ConvCode → ℕ → ℕ → B) → (ℕ → M) → ConvCode → ℕ → ℕ → A
best_of of op brings before code k i = of (best op code before (brings code) k i)

-- The invariant: after n turns s counts the states, and the lists hold what n turns store. For every code that the coded bits are
-- of, since the loop itself need not have the code; `brings` says what its branches bring.
pub record Paired
    {M B : Type 0} (op : Metric M B) (brings : ConvCode → ℕ → ℕ → B) (half : ℕ) (c0 c1 : List ℕ) (before : ℕ → M) (old : List M)
    (old_row : List ℕ) (next : List M) (row : List ℕ) (s n : ℕ) : Type 0 where
  pub turns : n ≤ half
  pub counter : s ≡ 2 * n
  pub size : length row ≡ length old_row
  pub mets : (code : ConvCode) → Crossed code half c0 c1 → next ≡ stored half (best_of met_of op brings before code) old n
  pub froms : (code : ConvCode) → Crossed code half c0 c1 → row ≡ stored half (best_of cell_from op brings before code) old_row n

pub paired_starts :
    {M B : Type 0} {op : Metric M B} {brings : ConvCode → ℕ → ℕ → B} {half : ℕ} {c0 c1 : List ℕ} {before : ℕ → M} {old : List M}
    {old_row : List ℕ} → Paired op brings half c0 c1 before old old_row old old_row 0 0
paired_starts =
    record {
      turns = omega arith;
      counter = omega arith;
      size = refl;
      mets = λ code crossed. stored_none _ _ _;
      froms = λ code crossed. stored_none _ _ _;
    }

module _
    {M B : Type 0} {op : Metric M B} {brings : ConvCode → ℕ → ℕ → B} {half : ℕ} {c0 c1 : List ℕ} {before : ℕ → M} {old : List M}
    {old_row : List ℕ} {next : List M} {row : List ℕ} {s n : ℕ} (now : Paired op brings half c0 c1 before old old_row next row s n)
  where
    -- after all turns
    module _ {code : ConvCode} (past : half ≤ n) (crossed : Crossed code half c0 c1) where
      abbrev cells : List (Cell M)
      cells = step op code before (brings code)

      end : n ≡ half
      end = omega (arith, now.turns)

      all_stored :
          {A : Type 0} (of : Cell M → A) (list new : List A) → new ≡ stored half (best_of of op brings before code) list n →
          2 * half ≤ length list → new ≡ map of cells ++ drop (2 ^ code.width) list
      all_stored of list new e room =
          let two = states_two_halves code crossed.some in
          rw end at e
          ∙ ap (λ (h : ℕ). stored h (best_of of op brings before code) list h) crossed.halved
          ∙ stored_step op code crossed.some before (brings code) of list (omega (arith, two, crossed.halved))

      pub paired_mets : 2 * half ≤ length old → next ≡ map met_of cells ++ drop (2 ^ code.width) old
      paired_mets room = all_stored met_of old next (now.mets code crossed) room

      pub paired_froms : 2 * half ≤ length old_row → row ≡ map cell_from cells ++ drop (2 ^ code.width) old_row
      paired_froms room = all_stored cell_from old_row row (now.froms code crossed) room

    -- a turn: `of` says what a coded pair brings, x is that of the pair which the even state sends on the input 0, y the opposite's
    module _
        (h : n < half) (of : ℕ → ℕ → B)
        (by_pair :
        (code : ConvCode) (r i : ℕ) →
        brings code r i ≡ of (parity_of code.g0 (window code r i)) (parity_of code.g1 (window code r i)))
        {x y : B} (of_x : get_or c0 n 0 < 2 → get_or c1 n 0 < 2 → x ≡ of (get_or c0 n 0) (get_or c1 n 0))
        (of_y : get_or c0 n 0 < 2 → get_or c1 n 0 < 2 → y ≡ of (1 - get_or c0 n 0) (1 - get_or c1 n 0)) {low high : Cell M}
        (led : LedTo op (before (2 * n)) (before (2 * n + 1)) s x y low high) where
      turned :
          (code : ConvCode) → Crossed code half c0 c1 →
          (low ≡ best op code before (brings code) n 0) × (high ≡ best op code before (brings code) n 1)
      turned code crossed =
          let (bit0, bit1) = crossed_bits code half c0 c1 crossed n h in
          wing_best code half c0 c1 crossed n h op of (brings code) (by_pair code) before x y (of_x bit0 bit1) (of_y bit0 bit1) s
          now.counter led

      pub paired_goes_on :
          {next' : List M} {row' : List ℕ} →
          next' ≡ set (set next n low.met) (n + half) high.met →
          row' ≡ set (set row n low.from) (n + half) high.from →
          Paired op brings half c0 c1 before old old_row next' row' (s + 2) (n + 1)
      paired_goes_on e f =
          record {
            turns = omega arith;
            counter = omega (arith, now.counter);
            size = rw f (simp length-set now.size);
            mets = λ code crossed.
                let (to0, to1) = turned code crossed in
                e ∙ stored_turn half _ old n next _ _ (now.mets code crossed) (ap met_of to0) (ap met_of to1);
            froms = λ code crossed.
                let (to0, to1) = turned code crossed in
                f ∙ stored_turn half _ old_row n row _ _ (now.froms code crossed) (ap cell_from to0) (ap cell_from to1);
          }
