-- Steps one after the other: the metrics that the code holds agree with those after t steps, the readings are read in order,
-- and the rows of survivors grow. Over any kind of decoder; d is what the code's read of a metric past the end would give.
-- Assumes nothing.
use mathlib.Core.Bool.{Bool, true, false}
use mathlib.Core.List.{List, ◌++◌}
use mathlib.Core.Path.{◌≡◌, refl, sym, ap, ap₂, ◌∙◌}
use Prim.Native.Nat.{ℕ, zero, suc, ◌+◌, ◌-◌, ◌*◌, ◌%◌, ◌^◌, ◌≤◌, ◌<◌}
use native.Mathlib.Nat.{le_trans, mod-lt, mod-eq_of_lt, suc-mul, mul-le-mul_right}
use native.Mathlib.Numerals.{add-one}
use native.Mathlib.Omega.{arith}
use lib.Dec.{eqb}
use lib.ListN.{length, get_or, set, take, drop, replicate, get_or-replicate, length-append, length-drop}
use lib.Pow.{pow_pos}
use lib.Seq.{get_or-set_other}
use Rattle.best_path.specs.Run.{mets_after}
use Rattle.best_path.proofs.Held.{held_froms, held_next}
use Rattle.best_path.proofs.Rows.{StateRows, survivor_rows, length-rows, row_fits, row_next, rows_start, rows_put}
use Rattle.best_path.proofs.Start.{others_marked}
use Rattle.trellis.specs.declared.ConvCode.{ConvCode}
use Rattle.trellis.specs.declared.KeepPattern.{KeepPattern}
use Rattle.trellis.specs.Choice.{keep_of}
use Rattle.trellis.specs.Keep.{Keep, keeps0, keeps1, coded_length}
use Rattle.trellis.specs.Places.{value_of, filled, place0, place1}
use Rattle.trellis.specs.Inner.{Rows, Halved, Crossed}
use Rattle.trellis.proofs.Columns.{rows_pattern, keeps0_column, keeps1_column, column_next}
use Rattle.trellis.proofs.Kept.{one, coded_suc, coded_le, coded_mono}
use Rattle.trellis.proofs.States.{states_two_halves}
use Rattle.correlation.specs.Arithmetic.{Kind}
use Rattle.correlation.specs.Gain.{brings, read0, read1, gain, new_mets, new_froms}
use Rattle.correlation.specs.Decode.{started, mets, froms, filled_rows}
use Rattle.correlation.specs.Inner.{Selects, Runnable, Runs}

module _ {A M : Type 0} (kind : Kind A M) (d : M) (code : ConvCode) (some : 0 < code.width) (p : Keep) (readings : List A) where
  abbrev states : ℕ
  states = 2 ^ code.width

  -- the metrics as the code holds them, in an array that may be longer
  abbrev Agrees : List M → ℕ → Type 0
  Agrees pm t = (s : ℕ) → s < states → get_or pm s d ≡ get_or (mets kind code p readings t) s kind.op.mark

  agrees_start : states ≤ 64 → Agrees (set (replicate 64 kind.op.mark) 0 kind.first) 0
  unfolding mets mets_after
  agrees_start few zero h = refl
  agrees_start few (suc s) h =
      get_or-set_other (replicate 64 kind.op.mark) 0 (suc s) kind.first d (λ e. omega arith)
      ∙ get_or-replicate 64 (suc s) kind.op.mark d (omega (arith, h, few))
      ∙ sym (others_marked kind.op code kind.first s)

  module _
      (pm : List M) (a b : A) (t : ℕ) (agrees : Agrees pm t) (of_a : a ≡ read0 kind.on p readings t)
      (of_b : b ≡ read1 kind.on p readings t) where
    same_gain : brings kind.on code a b ≡ gain kind.on code p readings t
    unfolding gain
    same_gain = ap₂ (brings kind.on code) of_a of_b

    new_froms_lem : new_froms kind code (λ (s : ℕ). get_or pm s d) a b ≡ froms kind code p readings t
    unfolding froms mets
    new_froms_lem =
        held_froms kind.op code (gain kind.on code p readings) (started kind code) d pm t agrees
        (brings kind.on code a b) same_gain

    agrees_next :
        (next rest : List M) → next ≡ new_mets kind code (λ (s : ℕ). get_or pm s d) a b ++ rest → Agrees next (t + 1)
    unfolding mets
    agrees_next =
        held_next kind.op code (gain kind.on code p readings) (started kind code) d pm t agrees
        (brings kind.on code a b) same_gain some

-- a row of survivors for each step, all of them states
pub rows_filled :
    {A M : Type 0} (kind : Kind A M) (code : ConvCode) → 0 < code.width → (p : Keep) (readings : List A) (width : ℕ) →
    width ≡ 2 ^ code.width → StateRows width (froms kind code p readings)
unfolding froms
rows_filled kind code some p readings width same =
    rw same (survivor_rows kind.op code some (gain kind.on code p readings) (started kind code))

one_at_most : (b : Bool) → one b ≤ 1
one_at_most true = omega arith
one_at_most false = omega arith

-- ---- the loop

-- The invariant: after t steps column, at and to are t's, the metrics agree with the definition's, and the survivors of t steps
-- stand over the front of the rows.
pub record Forwarded
    {A M : Type 0} (kind : Kind A M) (d : M) (code : ConvCode) (half : ℕ) (keep : KeepPattern) (readings : List A) (steps : ℕ)
    (old c0 c1 : List ℕ) (rows : List ℕ) (pm : List M) (column at to t : ℕ) : Type 0 where
  pub ready : Runnable code half keep steps old
  pub crossed : Crossed code half c0 c1
  pub turns : t ≤ steps
  pub counted : column ≡ t % keep.period
  pub behind : at ≡ coded_length (keep_of keep) t
  pub place : to ≡ t * (2 * half)
  pub agrees :
      (s : ℕ) → s < 2 ^ code.width → get_or pm s d ≡ get_or (mets kind code (keep_of keep) readings t) s kind.op.mark
  pub survivors : rows ≡ filled_rows kind code (keep_of keep) readings t ++ drop (t * (2 * half)) old

-- what the code's shape says of its states
module _ {code : ConvCode} {half : ℕ} (shape : Halved code half) where
  two_halves : 2 * half ≡ 2 ^ code.width
  two_halves = omega (arith, states_two_halves code shape.held.some, shape.halved)

  pub filled_by : {A M : Type 0} (kind : Kind A M) (p : Keep) (readings : List A) → StateRows (2 * half) (froms kind code p readings)
  filled_by kind p readings = rows_filled kind code shape.held.some p readings (2 * half) two_halves

pub forwarded_starts :
    {A M : Type 0} {kind : Kind A M} {d : M} {code : ConvCode} {half : ℕ} {keep : KeepPattern} {readings : List A} {steps : ℕ}
    {old c0 c1 : List ℕ} → Runnable code half keep steps old → Crossed code half c0 c1 →
    Forwarded kind d code half keep readings steps old c0 c1 old (set (replicate 64 kind.op.mark) 0 kind.first) 0 0 0 0
forwarded_starts {kind} {d} {code} {half} {keep} {readings} {steps} {old} ready crossed =
    let shape = ready.shape in
    let p = keep_of keep in
    record {
      ready = ready;
      crossed = crossed;
      turns = omega arith;
      counted = sym (mod-eq_of_lt ready.pattern.some);
      behind = omega (arith, coded_le p (rows_pattern keep ready.pattern) 0);
      place = omega arith;
      agrees = agrees_start kind d code shape.held.some p readings (omega (arith, two_halves shape, shape.few));
      survivors = rows_start (filled_by shape kind p readings) old;
    }

module _
    {A M : Type 0} {kind : Kind A M} {d : M} {code : ConvCode} {half : ℕ} {keep : KeepPattern} {readings : List A} {steps : ℕ}
    {old c0 c1 : List ℕ} {rows : List ℕ} {pm : List M} {column at to t : ℕ}
    (now : Forwarded kind d code half keep readings steps old c0 c1 rows pm column at to t) where
  abbrev p : Keep
  p = keep_of keep

  abbrev shape : Halved code half
  shape = now.ready.shape

  abbrev pattern : Rows keep
  pattern = now.ready.pattern

  abbrev some : 0 < code.width
  some = shape.held.some

  -- the rows are as long as they were
  pub rows_sized : length rows ≡ length old
  rows_sized =
      let front = length-rows (filled_by shape kind p readings) t in
      let within = mul-le-mul_right (2 * half) now.turns in
      ap length now.survivors
      ∙ simp (length-append, length-drop) (omega (arith, front, within, now.ready.room))

  pub forwarded_ends :
      steps ≤ t → Runs kind code p (2 * half) steps readings (get_or pm 0 d) (record { given = old; left = rows })
  forwarded_ends past =
      let end : t ≡ steps = omega (arith, now.turns) in
      record { last = rw end at (now.agrees 0 (pow_pos code.width)); survivors = rw end at now.survivors }

  pub column_below : column < keep.period
  column_below = omega (arith, now.counted, mod-lt t pattern.some)

  pub column_within : column < 7
  column_within = omega (arith, column_below, pattern.seven)

  -- what the columns of the step keep
  abbrev first : Bool
  first = eqb (get_or keep.row0 column 0) 1

  abbrev second : Bool
  second = eqb (get_or keep.row1 column 0) 1

  first-kept : first ≡ keeps0 p t
  first-kept = ap (λ (j : ℕ). eqb (get_or keep.row0 j 0) 1) now.counted ∙ sym (keeps0_column keep pattern t)

  second_kept : second ≡ keeps1 p t
  second_kept = ap (λ (j : ℕ). eqb (get_or keep.row1 j 0) 1) now.counted ∙ sym (keeps1_column keep pattern t)

  -- a step
  module _ (h : t < steps) where
    pub reads_few : at < 131072
    reads_few = omega (arith, now.behind, now.ready.few, coded_le p (rows_pattern keep pattern) t)

    pub row_within : to + 2 * half ≤ length rows
    row_within = omega (arith, now.place, rows_sized, row_fits t steps (2 * half) (length old) h now.ready.room)

    pub row_few : to + 2 * half ≤ 4194304
    row_few =
        let turns = mul-le-mul_right (2 * half) (le_trans h now.ready.few) in
        omega (arith, now.place, suc-mul t (2 * half), turns, shape.few)

    -- what it reads is among what all steps read
    step_used : at + (one first + one second) ≤ coded_length p steps
    step_used =
        let good = rows_pattern keep pattern in
        omega (
          arith,
          now.behind,
          ap one first-kept,
          ap one second_kept,
          coded_suc p good t,
          coded_mono p good (suc t) steps h,
        )

    pub first_used : first ≡ true → at < coded_length p steps
    first_used e = omega (arith, step_used, ap one e)

    pub second_used : {middle : ℕ} → middle ≡ at + one first → second ≡ true → middle < coded_length p steps
    second_used of_middle e = omega (arith, step_used, of_middle, ap one e)

    -- what a place of it reads
    abbrev reads : Bool → ℕ → A
    reads kept n = value_of kind.on.zero (filled kept readings n)

    -- its first place is read
    module _ {a : A} {middle : ℕ} (of_a : a ≡ reads first at) (of_middle : middle ≡ at + one first) where
      reads_first : a ≡ read0 kind.on p readings t
      unfolding place0
      reads_first = of_a ∙ ap₂ reads first-kept now.behind

      pub middle_few : middle ≤ 131072
      middle_few = omega (arith, of_middle, reads_few, one_at_most first)

      -- and its second
      module _ {b : A} {end : ℕ} (of_b : b ≡ reads second middle) (of_end : end ≡ middle + one second) where
        reads_second : b ≡ read1 kind.on p readings t
        unfolding place1
        reads_second =
            of_b
            ∙ ap₂ reads second_kept (of_middle ∙ ap₂ (λ (n : ℕ) (k : Bool). n + one k) now.behind first-kept)

        pub both_read : end ≡ coded_length p (t + 1)
        both_read =
            omega (
              arith,
              of_end,
              of_middle,
              now.behind,
              ap one first-kept,
              ap one second_kept,
              coded_suc p (rows_pattern keep pattern) t,
            )
            ∙ ap (coded_length p) (sym (add-one t))

        pub forwarded_goes_on :
            {next next' : List M} {part : List ℕ} {column' to' : ℕ} →
            Selects kind code (λ (s : ℕ). get_or pm s d) a b (record { given = next; left = next' })
            (record { given = take (length rows - to) (drop to rows); left = part }) →
            to' ≡ to + 2 * half → column' ≡ (column + 1) % keep.period →
            Forwarded kind d code half keep readings steps old c0 c1
            (take to rows ++ (part ++ drop (length rows - to) (drop to rows))) next' column' end to' (t + 1)
        forwarded_goes_on {next} {next'} {part} {column'} selects place' counted' =
            let rest = take (length rows - to) (drop to rows) in
            let froms_row = new_froms_lem kind d code some p readings pm a b t now.agrees reads_first reads_second in
            let row : part ≡ froms kind code p readings t ++ drop (2 * half) rest =
            selects.froms ∙ ap₂ (λ (l : List ℕ) (n : ℕ). l ++ drop n rest) froms_row (sym (two_halves shape)) in
            record {
              ready = now.ready;
              crossed = now.crossed;
              turns = omega arith;
              counted = column_next keep.period t column column' now.counted counted';
              behind = both_read;
              place = place' ∙ row_next to t (2 * half) now.place;
              agrees =
                  agrees_next kind d code some p readings pm a b t now.agrees reads_first reads_second next' _ selects.mets;
              survivors = rows_put (filled_by shape kind p readings) old rows part to t now.survivors now.place row;
            }
