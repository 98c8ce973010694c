-- One symbol: the parts that the code makes are the state after it, and each of its answers is what the definition says.
-- Assumes nothing.
use mathlib.Core.Bool.{Bool, true, false, cond}
use mathlib.Core.List.{List, [], ◌∷◌, ◌++◌, append-nil}
use mathlib.Core.Path.{◌≡◌, sym, ap, ap₂, ◌∙◌}
use Prim.Native.Nat.{ℕ, suc, ◌+◌, ◌*◌, ◌%◌, ◌^◌, min, ◌≤◌, ◌<◌}
use native.Mathlib.Nat.{mul_comm}
use native.Mathlib.Omega.{arith}
use borrow.Author.Tests.{lt-ltb, le-ltb}
use lib.Ieee.{Float}
use lib.ListN.{drop}
use Rattle.f32s.specs.Single.{within}
use Rattle.std.specs.Prelude.{Option, Some, None, Result, Ok}
use Rattle.refusal.specs.declared.Answered.{Answered}
use Rattle.refusal.specs.declared.Refusal.{Refusal}
use Rattle.refusal.specs.declared.Refusal.TheVariants.{BadComponent}
use Rattle.refusal.specs.Answer.{accepted, refused, Refuses}
use Rattle.refusal.specs.Lent.{Lent}
use Rattle.refusal.specs.Numbers.{bad_component}
use Rattle.trellis.specs.Choice.{k5}
use Rattle.streaming_steps.specs.declared.Front.{Front}
use Rattle.streaming_steps.specs.Steps.{lag, rows_kept, turns, new_mets, new_froms, normalised_at, kept}
use Rattle.streaming_steps.specs.Inner.{SelectsNew, NormalisedAfter, Keeps}
use Rattle.streaming.specs.Stream.{State, fed, bit_behind, given}
use Rattle.streaming.specs.Said.{of_symbol, feed_said, feed_leaves, emitted_said}
use Rattle.streaming.specs.Decoder.{state_of}
use Rattle.streaming.specs.Inner.{Advances, FeedsLent}

-- the row that the code writes to is the one of the symbols so far
row_of-turn : (turn states : ℕ) → states * (turn % rows_kept) ≡ turn % turns % rows_kept * states
row_of-turn turn states =
    let row : turn % rows_kept ≡ turn % turns % rows_kept = omega arith in
    ap (λ (n : ℕ). states * n) row ∙ mul_comm states (turn % turns % rows_kept)

pub parts_fed :
    {front r : Front} {re im : Float} {next : Lent Float} {froms history : Lent ℕ} {count turn : ℕ} →
    SelectsNew front.pm re im next froms → drop (2 ^ k5.width) froms.given ≡ [] →
    Keeps next.left froms.left (2 ^ k5.width * (front.turn % rows_kept)) history →
    count ≡ min (suc (front.count % (lag + 2))) (suc lag) → turn ≡ suc (front.turn % turns) % turns →
    NormalisedAfter front.turn (record { pm = next.left; count = count; turn = turn }) r →
    Advances front re im r history
unfolding fed
parts_fed {front} {r} {re} {im} {next} {froms} {history} selects whole keeps counts turned normal =
    let states = 2 ^ k5.width in
    let mets = new_mets k5 front.pm re im in
    let news = new_froms k5 front.pm re im in
    let of_froms : froms.left ≡ news = selects.of_froms ∙ ap (λ (l : List ℕ). news ++ l) whole ∙ append-nil news in
    let of_row : history.left ≡ kept mets news (front.turn % turns % rows_kept * states) states history.given =
    keeps.entries
    ∙ ap (λ (at : ℕ). kept next.left froms.left at states history.given) (row_of-turn front.turn states)
    ∙ ap₂ (λ (ms : List Float) (fs : List ℕ). kept ms fs (front.turn % turns % rows_kept * states) states history.given)
    selects.of_mets of_froms in
    let of_pm : r.pm ≡ normalised_at front.turn states mets =
    normal.pm ∙ ap (normalised_at front.turn states) selects.of_mets in
    let of_count = normal.count ∙ counts in
    let of_turn = normal.turn ∙ turned in
    record { state = λ i. record { pm = of_pm i; history = of_row i; count = of_count i; turn = of_turn i } }

-- ---- what a symbol gives

pub none_given : (st : State) → st.count ≤ lag → given k5 lag st ≡ []
unfolding given
none_given st h = ap (λ (due : Bool). cond due (bit_behind k5 lag st ∷ []) []) (le-ltb lag st.count h)

pub one_given : (st : State) (b : ℕ) → lag < st.count → b ≡ bit_behind k5 lag st → given k5 lag st ≡ b ∷ []
unfolding given
one_given st b h e =
    ap (λ (due : Bool). cond due (bit_behind k5 lag st ∷ []) []) (lt-ltb lag st.count h)
    ∙ ap (λ (bit : ℕ). bit ∷ []) (sym e)

-- ---- the answers

-- of the two tests, one within the other
module _ {A : Type 0} (re im : Float) (good bad_re bad_im : A) where
  where_good : within re ≡ true → within im ≡ true → good ≡ of_symbol re im good bad_re bad_im
  where_good e f = rw (e, f)

  where_bad_im : within re ≡ true → within im ≡ false → bad_im ≡ of_symbol re im good bad_re bad_im
  where_bad_im e f = rw (e, f)

  where_bad_re : within re ≡ false → bad_re ≡ of_symbol re im good bad_re bad_im
  where_bad_re e = rw e

module _ {front : Front} {history : List ℕ} {re im : Float} {r : Answered (Result (Option ℕ) Refusal) Front} where
  pub refused_re :
      Refuses (BadComponent 0) front r → within re ≡ false →
      FeedsLent front re im r (record { given = history; left = history })
  unfolding feed_said feed_leaves
  refused_re refuses e =
      record {
        answer = ap emitted_said refuses.answer ∙ where_bad_re re im _ _ (refused bad_component 1) e;
        state = ap (λ (f : Front). state_of f history) refuses.state ∙ where_bad_re re im _ _ (state_of front history) e;
      }

  pub refused_im :
      Refuses (BadComponent 1) front r → within re ≡ true → within im ≡ false →
      FeedsLent front re im r (record { given = history; left = history })
  unfolding feed_said feed_leaves
  refused_im refuses e f =
      record {
        answer = ap emitted_said refuses.answer ∙ where_bad_im re im _ (refused bad_component 0) _ e f;
        state = ap (λ (f : Front). state_of f history) refuses.state ∙ where_bad_im re im _ (state_of front history) _ e f;
      }

module _
    {front next : Front} {history : Lent ℕ} {re im : Float} (re_in : within re ≡ true) (im_in : within im ≡ true)
    (advances : Advances front re im next history) where
  abbrev now : State
  now = state_of next history.left

  left_state : now ≡ feed_leaves k5 lag (state_of front history.given) re im
  unfolding feed_leaves
  left_state = advances.state ∙ where_good re im _ _ _ re_in im_in

  said : accepted (given k5 lag now) ≡ feed_said k5 lag (state_of front history.given) re im
  unfolding feed_said
  said = ap (λ (st : State). accepted (given k5 lag st)) advances.state ∙ where_good re im _ _ _ re_in im_in

  pub nothing_yet :
      next.count ≤ lag → FeedsLent front re im (record { answer = Ok None; coder = next }) history
  nothing_yet h = record { answer = ap accepted (sym (none_given now h)) ∙ said; state = left_state }

  pub bit_emitted :
      {b : ℕ} → lag < next.count → b ≡ bit_behind k5 lag now →
      FeedsLent front re im (record { answer = Ok (Some b); coder = next }) history
  bit_emitted {b} h e = record { answer = ap accepted (sym (one_given now b h e)) ∙ said; state = left_state }
