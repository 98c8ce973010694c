-- The bit that lies the lag behind the first least state. Assumes nothing.
use mathlib.Core.List.{List}
use mathlib.Core.Path.{◌≡◌, sym, ap, subst, ◌∙◌}
use Prim.Native.Nat.{ℕ, ◌%◌, ◌^◌, ◌<◌}
use lib.Dec.{lit<, lit≤}
use lib.Ieee.{Float}
use Rattle.best_path.specs.Run.{input_into}
use Rattle.butterflies.specs.Smallest.{smallest}
use Rattle.symbols.specs.Decode.{first_least}
use Rattle.symbols.proofs.Least.{least_below}
use Rattle.trellis.specs.Choice.{k5}
use Rattle.trellis.specs.declared.ConvCode.{ConvCode}
use Rattle.streaming_steps.specs.declared.Front.{Front}
use Rattle.streaming_steps.specs.Steps.{lag, rows_kept, row_before, behind}
use Rattle.streaming_steps.specs.Inner.{LiesBehind}
use Rattle.streaming.specs.Stream.{State, bit_behind}
use Rattle.streaming.specs.Decoder.{state_of}

pub least_is_state : (pm : List Float) {least : ℕ} → least ≡ first_least pm (2 ^ k5.width) → least < 2 ^ k5.width
least_is_state pm e =
    let states = 2 ^ k5.width in
    subst (λ (n : ℕ). n < states) (sym e) (least_below pm states states (lit< tt) (lit≤ tt))

-- the definition opened, before code and lag are numbers
bit_opened :
    (code : ConvCode) (late : ℕ) (st : State) (least : ℕ) → least ≡ first_least st.pm (2 ^ code.width) →
    input_into smallest code (behind (2 ^ code.width) st.history (row_before (st.turn % rows_kept)) late least) ≡ bit_behind code late st
unfolding bit_behind
bit_opened code late st least e =
    ap (λ (n : ℕ). input_into smallest code (behind (2 ^ code.width) st.history (row_before (st.turn % rows_kept)) late n)) e

pub bit_behind_lem :
    (front : Front) {history : List ℕ} {least s b : ℕ} → least ≡ first_least front.pm (2 ^ k5.width) →
    LiesBehind history (row_before (front.turn % rows_kept)) least s → b ≡ input_into smallest k5 s →
    b ≡ bit_behind k5 lag (state_of front history)
bit_behind_lem front {history} {least} e found top =
    top ∙ ap (input_into smallest k5) found.lies ∙ bit_opened k5 lag (state_of front history) least e
