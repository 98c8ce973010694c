-- Rows of survivors, one behind the other: how they grow in a list that was lent, which row is which step's, and that all of
-- them are states. Over any rows of the same length. Assumes nothing.
use mathlib.Core.List.{List, [], ◌∷◌, ◌++◌, append_assoc, append-nil}
use mathlib.Core.Path.{◌≡◌, refl, sym, ap, ap₂, subst, ◌∙◌}
use Prim.Native.Nat.{ℕ, zero, suc, ◌+◌, ◌-◌, ◌*◌, ◌^◌, ◌≤◌, ◌<◌}
use native.Mathlib.Decide.{dec_lt}
use native.Mathlib.Nat.{suc-mul, mul-le-mul_right}
use native.Mathlib.Numerals.{add-one}
use native.Mathlib.Omega.{arith}
use lib.ListN.{length, get_or, take, drop, length-append, length-drop, drop_of_length-le, get_or-append}
use lib.Seq.{take_all, take_at, drop_at, drop-drop, get_or-append-add}
use Rattle.trellis.specs.declared.ConvCode.{ConvCode}
use Rattle.best_path.specs.Metric.{Metric}
use Rattle.best_path.specs.Path.{wholes}
use Rattle.best_path.specs.Rows.{first_rows, row_of, Traceable}
use Rattle.best_path.specs.Run.{survivors, traced, input_into}
use Rattle.best_path.proofs.Simulation.{traced_same}
use Rattle.best_path.proofs.Survivors.{length-survivors, survivor_below}

-- the row of a step that is still to come fits
pub row_fits : (t steps width room : ℕ) → t < steps → steps * width ≤ room → t * width + width ≤ room
row_fits t steps width room h fits = omega (arith, mul-le-mul_right width h, suc-mul t width)

-- where the next row begins
pub row_next : (at t width : ℕ) → at ≡ t * width → at + width ≡ (t + 1) * width
row_next at t width e = omega (arith, e, suc-mul t width, add-one t)

-- how many inputs the way back has
pub length-traced :
    {M B : Type 0} (op : Metric M B) (code : ConvCode) (froms : ℕ → List ℕ) (t s : ℕ) → length (traced op code froms t s) ≡ t
unfolding traced
length-traced op code froms zero s = refl
length-traced op code froms (suc t) s =
    length-append (traced op code froms t (get_or (froms t) s 0)) (input_into op code s ∷ [])
    ∙ omega (arith, length-traced op code froms t (get_or (froms t) s 0))

-- each row holds as many states as there are
pub record StateRows (states : ℕ) (row : ℕ → List ℕ) : Type 0 where
  pub sized : (t : ℕ) → length (row t) ≡ states
  pub below : (t j : ℕ) → j < states → get_or (row t) j 0 < states

-- as do the survivors of any run
pub survivor_rows :
    {M B : Type 0} (op : Metric M B) (code : ConvCode) → 0 < code.width → (gains : ℕ → ℕ → ℕ → B) (start : List M) →
    StateRows (2 ^ code.width) (survivors op code gains start)
survivor_rows op code some gains start =
    record { sized = length-survivors op code some gains start; below = survivor_below op code some gains start }

module _ {states : ℕ} {row : ℕ → List ℕ} (is : StateRows states row) where
  pub length-rows : (t : ℕ) → length (first_rows row t) ≡ t * states
  unfolding first_rows
  length-rows zero = omega arith
  length-rows (suc t) = length-append (first_rows row t) (row t) ∙ omega (arith, length-rows t, is.sized t, suc-mul t states)

  pub rows_start : (old : List ℕ) → old ≡ first_rows row 0 ++ drop (0 * states) old
  unfolding first_rows
  rows_start old = let zeros : 0 ≡ 0 * states = omega arith in ap (λ (n : ℕ). drop n old) zeros

  -- a row behind the rows: the part of the list from there on begins with it
  rows_next :
      (old list part : List ℕ) (at t : ℕ) → list ≡ first_rows row t ++ drop (t * states) old → at ≡ t * states →
      part ≡ row t ++ drop states (drop at list) → take at list ++ part ≡ first_rows row (t + 1) ++ drop ((t + 1) * states) old
  unfolding first_rows
  rows_next old list part at t e f g =
      let long : length (first_rows row t) ≡ at = length-rows t ∙ sym f in
      let front : take at list ≡ first_rows row t = ap (take at) e ∙ take_at (first_rows row t) (drop (t * states) old) at long in
      let behind : drop at list ≡ drop (t * states) old = ap (drop at) e ∙ drop_at (first_rows row t) (drop (t * states) old) at long in
      let further : t * states + states ≡ (t + 1) * states = sym (ap (λ (n : ℕ). n * states) (add-one t) ∙ suc-mul t states) in
      let rest : drop states (drop at list) ≡ drop ((t + 1) * states) old =
      ap (drop states) behind ∙ drop-drop states (t * states) old ∙ ap (λ (n : ℕ). drop n old) further in
      ap₂ (λ (x y : List ℕ). x ++ y) front (g ∙ ap (λ (l : List ℕ). row t ++ l) rest)
      ∙ sym (append_assoc (first_rows row t) (row t) (drop ((t + 1) * states) old))
      ∙ ap (λ (n : ℕ). first_rows row n ++ drop ((t + 1) * states) old) (sym (add-one t))

  -- the same as a call leaves it, which was lent the list from there on
  pub rows_put :
      (old list part : List ℕ) (at t : ℕ) → list ≡ first_rows row t ++ drop (t * states) old → at ≡ t * states →
      part ≡ row t ++ drop states (take (length list - at) (drop at list)) →
      take at list ++ (part ++ drop (length list - at) (drop at list)) ≡ first_rows row (t + 1) ++ drop ((t + 1) * states) old
  rows_put old list part at t e f g =
      let all : length (drop at list) ≤ length list - at = omega (arith, length-drop at list) in
      let nothing : part ++ drop (length list - at) (drop at list) ≡ part =
      ap (λ (l : List ℕ). part ++ l) (drop_of_length-le (drop at list) all) ∙ append-nil part in
      let lent : part ≡ row t ++ drop states (drop at list) =
      g ∙ ap (λ (l : List ℕ). row t ++ drop states l) (take_all (length list - at) (drop at list) all) in
      ap (λ (l : List ℕ). take at list ++ l) nothing ∙ rows_next old list part at t e f lent

  last_apart : (t : ℕ) (rest : List ℕ) → first_rows row (suc t) ++ rest ≡ first_rows row t ++ (row t ++ rest)
  unfolding first_rows
  last_apart t rest = append_assoc (first_rows row t) (row t) rest

  row_at : (t : ℕ) (rest : List ℕ) (i : ℕ) → i < t → row_of states (first_rows row t ++ rest) i ≡ row i
  row_at zero rest i h = absurd (omega arith)
  row_at (suc t) rest i h =
      ap (λ (l : List ℕ). row_of states l i) (last_apart t rest)
      ∙ elim (dec_lt i t) [ yes low ↦ row_at t (row t ++ rest) i low | no high ↦ here (omega arith) ]
    where
      here : i ≡ t → row_of states (first_rows row t ++ (row t ++ rest)) i ≡ row i
      here e =
          subst (λ (j : ℕ). row_of states (first_rows row t ++ (row t ++ rest)) j ≡ row j) (sym e)
          (ap (take states) (drop_at (first_rows row t) (row t ++ rest) (t * states) (length-rows t))
          ∙ take_at (row t) rest states (is.sized t))

  all_states : (t : ℕ) (rest : List ℕ) (k : ℕ) → k < t * states → get_or (first_rows row t ++ rest) k 0 < states
  all_states zero rest k h = absurd (omega arith)
  all_states (suc t) rest k h =
      subst (λ (l : List ℕ). get_or l k 0 < states) (sym (last_apart t rest))
      (elim (dec_lt k (t * states)) [
        | yes low ↦ all_states t (row t ++ rest) k low
        | no high ↦ here (k - t * states) (omega (arith, high)) (omega (arith, h, suc-mul t states))
      ])
    where
      here : (j : ℕ) → t * states + j ≡ k → j < states → get_or (first_rows row t ++ (row t ++ rest)) k 0 < states
      here j e g =
          subst (λ (n : ℕ). n < states)
          (sym (ap (λ (n : ℕ). get_or (first_rows row t ++ (row t ++ rest)) n 0) (sym e ∙ ap (λ (n : ℕ). n + j) (sym (length-rows t)))
          ∙ get_or-append-add (first_rows row t) (row t ++ rest) j 0
          ∙ get_or-append (row t) rest 0 j (subst (λ (n : ℕ). j < n) (sym (is.sized t)) g)))
          (is.below t j g)

  -- ---- the way back over what all steps leave
  module _
      (code : ConvCode) (half steps : ℕ) (list rest : List ℕ) (two : 2 * half ≡ states) (halved : half ≡ 2 ^ (code.width - 1))
      (few : half ≤ 32)
      (left : list ≡ first_rows row steps ++ rest) where
    rows_within : steps * (2 * half) ≤ length list
    rows_within =
        let counted : length (first_rows row steps) ≡ steps * (2 * half) = length-rows steps ∙ ap (λ (n : ℕ). steps * n) (sym two) in
        let all : length list ≡ length (first_rows row steps) + length rest =
        ap (λ (l : List ℕ). length l) left ∙ length-append (first_rows row steps) rest in
        omega (arith, counted, all)

    pub left_traceable : (last info room : ℕ) → last < 2 * half → info ≤ steps → info ≤ room → Traceable code half list steps last info room
    left_traceable last info room state reached fits =
        record {
          few = few;
          halved = halved;
          reached = reached;
          fits = fits;
          filled = rows_within;
          states =
              λ k h.
              subst (λ (n : ℕ). get_or list k 0 < n) (sym two)
              (subst (λ (l : List ℕ). get_or l k 0 < states) (sym left) (all_states steps rest k (subst (λ (n : ℕ). k < steps * n) two h)));
          state = state;
        }

    pub left_way_back :
        {M B : Type 0} (op : Metric M B) (last : ℕ) →
        traced wholes code (row_of (2 * half) list) steps last ≡ traced op code row steps last
    left_way_back op last =
        traced_same wholes op code (row_of (2 * half) list) row steps last
        (λ i h. ap₂ (λ (n : ℕ) (l : List ℕ). row_of n l i) two left ∙ row_at steps rest i h)
