-- Symbols one after the other: the metrics that the code holds are those after t symbols, and the rows of survivors grow.
-- Over any code of as many states as the step is for. Assumes nothing.
use mathlib.Core.List.{List, ◌∷◌, ◌++◌}
use mathlib.Core.Path.{◌≡◌, sym, ap, ap₂, ◌∙◌}
use Prim.Native.Nat.{ℕ, zero, suc, ◌+◌, ◌-◌, ◌*◌, ◌^◌, ◌≤◌, ◌<◌}
use native.Mathlib.Omega.{arith}
use lib.Ieee.{Float, nan}
use lib.ListN.{length, set, take, drop, replicate, length-append, length-drop, length-replicate}
use lib.Pow.{pow_pos}
use Rattle.best_path.specs.Run.{mets_after}
use Rattle.best_path.proofs.Held.{Held, held_whole, held_mets, held_froms}
use Rattle.best_path.proofs.Rows.{StateRows, survivor_rows, length-rows, rows_start, rows_put}
use Rattle.best_path.proofs.Survivors.{length-mets}
use Rattle.f32s.specs.Single.{zero32}
use Rattle.trellis.specs.declared.ConvCode.{ConvCode}
use Rattle.trellis.specs.Inner.{Halved, Crossed}
use Rattle.trellis.proofs.States.{states_two_halves}
use Rattle.butterflies.specs.Smallest.{mark, smallest}
use Rattle.symbols.specs.Costs.{costs, started}
use Rattle.symbols.specs.Decode.{symbol_costs, first_least, mets, froms, filled_rows}
use Rattle.symbols.specs.Inner.{half, new_mets, new_froms, Selects}
use Rattle.symbols.specs.Inner.{symbol_at, Runnable, Runs}
use Rattle.symbols.specs.declared.phasors.Phasor.{Phasor}

module _ (code : ConvCode) (some : 0 < code.width) (soft : List Float) where
  abbrev states : ℕ
  states = 2 ^ code.width

  pub length-metrics : (t : ℕ) → length (mets code soft t) ≡ states
  unfolding mets mets_after
  length-metrics zero = omega (arith, length-replicate (states - 1) mark, pow_pos code.width)
  length-metrics (suc t) = length-mets smallest code some (symbol_costs code soft) (started code) t

  -- a row of survivors for each symbol, all of them states
  pub rows_filled : StateRows states (froms code soft)
  unfolding froms
  rows_filled = survivor_rows smallest code some (symbol_costs code soft) (started code)

  -- the step of symbol t
  module _ (t : ℕ) {symbol : Phasor} (read : symbol ≡ symbol_at soft t) where
    same_costs : costs code symbol.re symbol.im ≡ symbol_costs code soft t
    unfolding symbol_costs
    same_costs = ap (λ (s : Phasor). costs code s.re s.im) read

    module _ {pm : List Float} (so_far : pm ≡ mets code soft t) where
      held : Held smallest code (symbol_costs code soft) (started code) nan pm t
      unfolding mets
      held =
          held_whole smallest code (symbol_costs code soft) (started code) nan pm t so_far
          (omega (arith, ap length so_far, length-metrics t))

      new_mets_lem : new_mets code pm symbol.re symbol.im ≡ mets code soft (t + 1)
      unfolding mets
      new_mets_lem =
          held_mets smallest code (symbol_costs code soft) (started code) nan pm t held (costs code symbol.re symbol.im) same_costs

      new_froms_lem : new_froms code pm symbol.re symbol.im ≡ froms code soft t
      unfolding froms
      new_froms_lem =
          held_froms smallest code (symbol_costs code soft) (started code) nan pm t held (costs code symbol.re symbol.im) same_costs

-- ---- the loop

-- what the code's shape says of its states
module _ {code : ConvCode} (shape : Halved code half) (soft : List Float) where
  pub two_halves : 2 ^ code.width ≡ 2 * half
  two_halves = omega (arith, states_two_halves code shape.held.some, shape.halved)

  pub filled_by : StateRows (2 * half) (froms code soft)
  filled_by = rw (← two_halves) (rows_filled code shape.held.some soft)

  mets_start : set (replicate (2 * half) mark) 0 zero32 ≡ mets code soft 0
  unfolding mets mets_after
  mets_start = ap (λ (n : ℕ). zero32 ∷ replicate (n - 1) mark) (sym two_halves)

-- The invariant: after t symbols the metrics are the definition's, and the survivors of t symbols stand over the front of the
-- rows.
pub record Forwarded
    (code : ConvCode) (soft : List Float) (count : ℕ) (old c0 c1 : List ℕ) (rows : List ℕ) (pm : List Float)
    (to t : ℕ) : Type 0 where
  pub ready : Runnable code soft count old
  pub crossed : Crossed code half c0 c1
  pub turns : t ≤ count
  pub place : to ≡ t * (2 * half)
  pub metrics : pm ≡ mets code soft t
  pub survivors : rows ≡ filled_rows code soft t ++ drop (t * (2 * half)) old

pub forwarded_starts :
    {code : ConvCode} {soft : List Float} {count : ℕ} {old c0 c1 : List ℕ} →
    Runnable code soft count old → Crossed code half c0 c1 →
    Forwarded code soft count old c0 c1 old (set (replicate (2 * half) mark) 0 zero32) 0 0
forwarded_starts {code} {soft} {count} {old} ready crossed =
    record {
      ready = ready;
      crossed = crossed;
      turns = omega arith;
      place = omega arith;
      metrics = mets_start ready.shape soft;
      survivors = rows_start (filled_by ready.shape soft) old;
    }

module _
    {code : ConvCode} {soft : List Float} {count : ℕ} {old c0 c1 : List ℕ} {rows : List ℕ} {pm : List Float}
    {to t : ℕ} (now : Forwarded code soft count old c0 c1 rows pm to t) where
  abbrev shape : Halved code half
  shape = now.ready.shape

  -- the rows are as long as they were
  pub rows_sized : length rows ≡ length old
  rows_sized =
      let front = length-rows (filled_by shape soft) t in
      ap length now.survivors
      ∙ simp (length-append, length-drop) (omega (arith, front, now.turns, now.ready.room))

  pub forwarded_ends :
      count ≤ t → {r : ℕ} → r ≡ first_least pm (2 * half) → Runs code soft count r (record { given = old; left = rows })
  forwarded_ends past {r} found =
      let end : t ≡ count = omega (arith, now.turns) in
      let two = two_halves shape soft in
      record {
        last = found ∙ ap₂ first_least (rw end at now.metrics) (sym two);
        survivors = rw (two) (rw end at now.survivors);
      }

  -- a symbol
  module _ (h : t < count) where
    pub row_within : to + 2 * half ≤ length rows
    row_within = omega (arith, now.place, rows_sized, now.ready.room)

    pub forwarded_goes_on :
        {symbol : Phasor} → symbol ≡ symbol_at soft t →
        {next next' : List Float} {part : List ℕ} {to' : ℕ} →
        Selects code pm symbol.re symbol.im (record { given = next; left = next' })
        (record { given = take (length rows - to) (drop to rows); left = part }) →
        to' ≡ to + 2 * half →
        Forwarded code soft count old c0 c1 (take to rows ++ (part ++ drop (length rows - to) (drop to rows))) next' to' (t + 1)
    forwarded_goes_on read {next} {next'} {part} selects place' =
        let some = shape.held.some in
        let rest = take (length rows - to) (drop to rows) in
        let froms_row = new_froms_lem code some soft t read now.metrics in
        let row : part ≡ froms code soft t ++ drop (2 * half) rest =
        selects.froms ∙ ap₂ (λ (l : List ℕ) (n : ℕ). l ++ drop n rest) froms_row (two_halves shape soft) in
        record {
          ready = now.ready;
          crossed = now.crossed;
          turns = omega arith;
          place = omega (arith, place', now.place);
          metrics = selects.mets ∙ new_mets_lem code some soft t read now.metrics;
          survivors = rows_put (filled_by shape soft) old rows part to t now.survivors now.place row;
        }
