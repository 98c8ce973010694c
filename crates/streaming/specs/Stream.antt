-- The streaming decoder, symbol by symbol: its state, what a symbol makes of it, and the bit that comes out. Over any
-- code and lag. Definitions only.
use Rattle.std.specs.Prelude.{cond, List, [], ◌∷◌, ℕ, suc, ◌+◌, ◌*◌, ◌%◌, ◌^◌, min, ltb, Float, replicate}
use Rattle.best_path.specs.Run.{input_into}
use Rattle.butterflies.specs.Smallest.{smallest}
use Rattle.symbols.specs.Costs.{started}
use Rattle.symbols.specs.Decode.{first_least}
use Rattle.trellis.specs.declared.ConvCode.{ConvCode}
use Rattle.streaming_steps.specs.Steps.{rows_kept, turns, row_before, behind}
use Rattle.streaming_steps.specs.Steps.{new_mets, new_froms, normalised, normalised_at, kept}

-- the metrics; the history, row by row; the symbols so far, up to one more than the lag; the symbols so far mod 256
pub record State : Type 0 where
  pub pm : List Float
  pub history : List ℕ
  pub count : ℕ
  pub turn : ℕ

module _ (code : ConvCode) (lag : ℕ) where
  -- State 0 starts at 0.0, the others are unreachable, and the history is all zero.
  unfoldable pub fresh : State
  fresh = record { pm = started code; history = replicate (rows_kept * 2 ^ code.width) 0; count = 0; turn = 0 }

  module _ (st : State) where
    -- counters out of range are read modulo one more than their largest value
    abbrev pub count_read : ℕ
    count_read = st.count % (lag + 2)

    abbrev pub turn_read : ℕ
    turn_read = st.turn % turns

    -- the state after the symbol
    unfoldable pub fed : Float → Float → State
    unfolding new_mets new_froms normalised kept
    fed re im =
        let mets = new_mets code st.pm re im in
        let froms = new_froms code st.pm re im in
        record {
          pm = normalised_at st.turn (2 ^ code.width) mets;
          history = kept mets froms (turn_read % rows_kept * 2 ^ code.width) (2 ^ code.width) st.history;
          count = min (suc count_read) (suc lag);
          turn = suc turn_read % turns;
        }

    -- the top bit of the state that lies the lag behind the first least state, from the state after a symbol
    unfoldable pub bit_behind : ℕ
    unfolding behind first_least
    bit_behind =
        let least = first_least st.pm (2 ^ code.width) in
        let row = row_before (st.turn % rows_kept) in
        input_into smallest code (behind (2 ^ code.width) st.history row lag least)

    -- what the symbol gives: nothing up to the lag, then that bit
    unfoldable pub given : List ℕ
    unfolding bit_behind
    given = cond (ltb lag st.count) (bit_behind ∷ []) []
