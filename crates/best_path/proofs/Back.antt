-- The loop of `trace`: what is left to be done after each turn, and that the whole of it leaves the inputs of the way back.
-- Assumes nothing.
use mathlib.Core.Bool.{cond}
use mathlib.Core.List.{List, [], ◌∷◌, ◌++◌, append_assoc}
use mathlib.Core.Path.{◌≡◌, refl, sym, ap, subst, ◌∙◌}
use Prim.Native.Nat.{ℕ, zero, suc, ◌+◌, ◌-◌, ◌*◌, ◌/◌, ◌≤◌, ◌<◌}
use native.Mathlib.Decide.{le_ind, dec_lt}
use native.Mathlib.Nat.{div-eq_of_lt}
use native.Mathlib.Omega.{arith}
use borrow.Author.Tests.{lt-ltb, le-ltb}
use lib.Arith.{digits_lt, digits_div}
use lib.Dec.{ltb}
use lib.ListN.{length, get_or, set, take, drop, length-set, length-append}
use lib.Seq.{drop-cons, drop-set-lt, get_or-set_same, get_or-take, get_or-drop, take_all, take-append-le}
use Rattle.trellis.specs.declared.ConvCode.{ConvCode}
use Rattle.best_path.specs.Path.{wholes}
use Rattle.best_path.specs.Rows.{row_of, spelled, Traceable}
use Rattle.best_path.specs.Run.{input_into, traced}

-- the top bit of a state, as the code finds it
abbrev pub top_bit : ℕ → ℕ → ℕ
top_bit half s = cond (ltb s half) 0 1

-- What the loop leaves from i on, with the state s and the list out. An invariant says that this is as it was at the start:
-- it needs no code, as the loop has none.
unfoldable pub left : ℕ → List ℕ → ℕ → ℕ → ℕ → List ℕ → List ℕ
left half rows info zero s out = out
left half rows info (suc i) s out =
    left half rows info i (get_or rows (i * (2 * half) + s) 0) (cond (ltb i info) (set out i (top_bit half s)) out)

drop-set_same : (out : List ℕ) (i v : ℕ) → i < length out → drop i (set out i v) ≡ v ∷ drop (suc i) out
drop-set_same out i v h =
    drop-cons (set out i v) i 0 (omega (arith, length-set out i v))
    ∙ rw (get_or-set_same out i v 0 h, drop-set-lt (suc i) out i v (omega arith))

module _ (half : ℕ) (rows : List ℕ) (info : ℕ) where
  abbrev go : ℕ → ℕ → List ℕ → List ℕ
  go = left half rows info

  abbrev survivor : ℕ → ℕ → ℕ
  survivor i s = get_or rows (i * (2 * half) + s) 0

  left_none : (s : ℕ) (out : List ℕ) (i : ℕ) → i ≤ 0 → go i s out ≡ out
  unfolding left
  left_none s out zero h = refl
  left_none s out (suc i) h = absurd (omega arith)

  -- a turn of each kind, counted from below
  written : (i s : ℕ) (out : List ℕ) → i < info → go i (survivor i s) (set out i (top_bit half s)) ≡ go (suc i) s out
  unfolding left
  written i s out h = rw (lt-ltb i info h)

  passed : (i s : ℕ) (out : List ℕ) → info ≤ i → go i (survivor i s) out ≡ go (suc i) s out
  unfolding left
  passed i s out h = rw (le-ltb i info h)

  -- ---- the whole

  module _ (code : ConvCode) (steps last room : ℕ) (can : Traceable code half rows steps last info room) where
    abbrev way : ℕ → ℕ → List ℕ
    way = traced wholes code (row_of (2 * half) rows)

    low_enters_on_zero : (s : ℕ) → s < half → top_bit half s ≡ input_into wholes code s
    low_enters_on_zero s h = rw (lt-ltb s half h) (sym (div-eq_of_lt (subst (λ (n : ℕ). s < n) can.halved h)))

    high_enters_on_one : (s : ℕ) → half ≤ s → s < 2 * half → top_bit half s ≡ input_into wholes code s
    high_enters_on_one s h g =
        let one : s / half ≡ 1 = subst (λ (n : ℕ). n / half ≡ 1) (omega arith) (digits_div 1 {m = half} {r = s - half} (omega arith)) in
        rw (le-ltb s half h) (sym (subst (λ (n : ℕ). s / n ≡ 1) can.halved one))

    top_bit-input : (s : ℕ) → s < 2 * half → top_bit half s ≡ input_into wholes code s
    top_bit-input s g = elim (dec_lt s half) [ yes h ↦ low_enters_on_zero s h | no h ↦ high_enters_on_one s (omega arith) g ]

    row_survivor : (i s : ℕ) → s < 2 * half → get_or (row_of (2 * half) rows i) s 0 ≡ survivor i s
    row_survivor i s h = get_or-take (2 * half) (drop (i * (2 * half)) rows) s 0 h ∙ get_or-drop (i * (2 * half)) rows s 0

    survivor_below : (i s : ℕ) → i < steps → s < 2 * half → survivor i s < 2 * half
    survivor_below i s h g = can.states (i * (2 * half) + s) (digits_lt h g)

    way_suc : (i s : ℕ) → s < 2 * half → way (suc i) s ≡ way i (survivor i s) ++ (top_bit half s ∷ [])
    unfolding traced
    way_suc i s h = rw (row_survivor i s h, top_bit-input s h)

    length-way : (i s : ℕ) → length (way i s) ≡ i
    unfolding traced
    length-way zero s = refl
    length-way (suc i) s =
        length-append (way i (get_or (row_of (2 * half) rows i) s 0)) (input_into wholes code s ∷ [])
        ∙ omega (arith, length-way i (get_or (row_of (2 * half) rows i) s 0))

    -- all inputs are stored
    left_no_tail : (i s : ℕ) (out : List ℕ) → i ≤ info → i ≤ length out → s < 2 * half → go i s out ≡ way i s ++ drop i out
    unfolding left traced
    left_no_tail zero s out h g l = refl
    left_no_tail (suc i) s out h g l =
        sym (written i s out h)
        ∙ left_no_tail i (survivor i s) (set out i (top_bit half s)) (omega arith) (omega (arith, length-set out i (top_bit half s)))
        (survivor_below i s (omega (arith, can.reached)) l)
        ∙ rw (drop-set_same out i (top_bit half s) g) (sym (append_assoc (way i (survivor i s)) (top_bit half s ∷ []) (drop (suc i) out)))
        ∙ ap (λ (w : List ℕ). w ++ drop (suc i) out) (sym (way_suc i s l))

    -- the tail stores nothing, and its inputs are the last of the way, so they are not among the first `info`
    left_with_tail :
        (out : List ℕ) → info ≤ length out → (i : ℕ) → info ≤ i → i ≤ steps → (s : ℕ) → s < 2 * half →
        go i s out ≡ take info (way i s) ++ drop info out
    left_with_tail out fits =
        le_ind (λ (i : ℕ). i ≤ steps → (s : ℕ) → s < 2 * half → go i s out ≡ take info (way i s) ++ drop info out)
        (λ h s l. left_no_tail info s out (omega arith) fits l
        ∙ ap (λ (w : List ℕ). w ++ drop info out) (sym (take_all info (way info s) (omega (arith, length-way info s)))))
        (λ i h e g s l. sym (passed i s out h)
        ∙ e (omega arith) (survivor i s) (survivor_below i s g l)
        ∙ ap (λ (w : List ℕ). w ++ drop info out)
        (sym
        (ap (take info) (way_suc i s l)
        ∙ take-append-le info (way i (survivor i s)) (top_bit half s ∷ []) (omega (arith, length-way i (survivor i s))))))

    left_way : (out : List ℕ) → info ≤ length out → go steps last out ≡ take info (way steps last) ++ drop info out
    left_way out fits = left_with_tail out fits steps can.reached (omega arith) last can.state

-- ---- turn by turn

-- The invariant: i rows are left to walk over, from the state s; the list is as long as it was, and what is left to be done comes
-- to the same as at the start.
pub record Walked (half : ℕ) (rows : List ℕ) (steps last info : ℕ) (old out : List ℕ) (s i : ℕ) : Type 0 where
  pub within : i ≤ steps
  pub state : s < 2 * half
  pub size : length out ≡ length old
  pub same : left half rows info i s out ≡ left half rows info steps last old

module _
    {code : ConvCode} {half : ℕ} {rows : List ℕ} {steps last info room : ℕ} (can : Traceable code half rows steps last info room)
  where
    pub walked_starts : {old : List ℕ} → Walked half rows steps last info old old last steps
    walked_starts = record { within = omega arith; state = can.state; size = refl; same = refl }

    module _ {old out : List ℕ} {s i : ℕ} (now : Walked half rows steps last info old out s i) where
      -- nothing is left
      pub walked_ends :
          i ≤ 0 → info ≤ length old → out ≡ spelled code half rows steps last info ++ drop info old
      walked_ends none fits =
          sym (left_none half rows info s out i none) ∙ now.same ∙ left_way half rows info code steps last room can old fits

      -- a turn: the rows hold the state's byte in the row that it reads
      module _ (some : 0 < i) where
        pub row_holds : (i - 1) * (2 * half) + s < steps * (2 * half)
        row_holds = digits_lt (omega (arith, now.within)) now.state

        goes_on :
            {new : List ℕ} → length new ≡ length out →
            left half rows info (i - 1) (survivor half rows info (i - 1) s) new ≡ left half rows info (suc (i - 1)) s out →
            Walked half rows steps last info old new (survivor half rows info (i - 1) s) (i - 1)
        goes_on {new} sized e =
            let back : suc (i - 1) ≡ i = omega arith in
            record {
              within = omega (arith, now.within);
              state = can.states _ row_holds;
              size = sized ∙ now.size;
              same = e ∙ ap (λ (j : ℕ). left half rows info j s out) back ∙ now.same;
            }

        -- it stores the input, or passes by in the tail
        pub walked_writes :
            {new : List ℕ} {v : ℕ} → i - 1 < info → v ≡ top_bit half s → new ≡ set out (i - 1) v →
            Walked half rows steps last info old new (get_or rows ((i - 1) * (2 * half) + s) 0) (i - 1)
        walked_writes {new} {v} h e f =
            goes_on (ap length f ∙ length-set out (i - 1) v) (rw (f, e) (written half rows info (i - 1) s out h))

        pub walked_passes :
            {new : List ℕ} → info ≤ i - 1 → new ≡ out →
            Walked half rows steps last info old new (get_or rows ((i - 1) * (2 * half) + s) 0) (i - 1)
        walked_passes h f = goes_on (ap length f) (rw f (passed half rows info (i - 1) s out h))
