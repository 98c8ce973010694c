-- A flush, symbol by symbol, and its answers. Assumes nothing.
use mathlib.Core.List.{List, ◌∷◌, append-nil}
use mathlib.Core.Path.{◌≡◌, refl, sym, ap, subst, ◌∙◌}
use Prim.Native.Nat.{ℕ, ◌+◌, ◌≤◌, ◌<◌}
use native.Mathlib.Nat.{le_antisymm}
use native.Mathlib.Numerals.{add-one}
use native.Mathlib.Omega.{arith}
use borrow.Author.Tests.{lt-ltb, le-ltb}
use lib.Dec.{ltb}
use lib.ListN.{length, replicate, set}
use Rattle.best_path.proofs.Candidates.{where_true, where_false}
use Rattle.f32s.specs.Single.{zero32}
use Rattle.std.specs.Prelude.{Result, Ok}
use Rattle.refusal.specs.declared.Answered.{Answered}
use Rattle.refusal.specs.declared.Refusal.{Refusal}
use Rattle.refusal.specs.declared.Refusal.TheVariants.{ShortOutput}
use Rattle.refusal.specs.Answer.{accepted, refused, answer_said, Refuses}
use Rattle.refusal.specs.Lent.{Lent}
use Rattle.refusal.specs.Numbers.{short_output}
use Rattle.refusal.proofs.Filling.{Written, as_before, one_more, written_inside}
use Rattle.refusal.proofs.Over.{writes_refused, writes_accepted}
use Rattle.refusal.proofs.Told.{refused_when, passed_when}
use Rattle.trellis.specs.Choice.{k5}
use Rattle.trellis.specs.declared.ConvCode.{ConvCode}
use Rattle.streaming_steps.specs.declared.Front.{Front}
use Rattle.streaming_steps.specs.Steps.{lag}
use Rattle.streaming.specs.Stream.{State, bit_behind}
use Rattle.streaming.specs.Run.{nought, after, run_gives, flushed, flush_gives}
use Rattle.streaming.specs.Said.{flush_said, flush_leaves}
use Rattle.streaming.specs.Decoder.{state_of}
use Rattle.streaming.specs.Inner.{Advances, FlushesLent}
use Rattle.streaming.proofs.OneSymbol.{none_given, one_given}
use Rattle.streaming.proofs.Running.{Ran, ran_none, ran_more, flush_is_run, flush_gives-run}

-- ---- the answers

module _ (code : ConvCode) (late : ℕ) (st : State) (room : ℕ) where
  refused_said : room < late → flush_said code late st room ≡ refused short_output 0
  unfolding flush_said
  refused_said h = sym (refused_when (ltb room late) 4 _ (lt-ltb room late h))

  refused_state : room < late → st ≡ flush_leaves code late st room
  unfolding flush_leaves
  refused_state h = where_true (ltb room late) st _ (lt-ltb room late h)

  accepted_said : late ≤ room → flush_said code late st room ≡ accepted (length (flush_gives code late st))
  unfolding flush_said
  accepted_said h = sym (passed_when (ltb room late) 4 _ (le-ltb room late h))

  accepted_state : late ≤ room → after code late st (replicate late nought) ≡ flush_leaves code late st room
  unfolding flush_leaves
  accepted_state h =
      flush_is_run code late st ∙ where_false (ltb room late) st (flushed code late st) (le-ltb room late h)

pub room_refused :
    {front : Front} {history out : List ℕ} {r : Answered (Result ℕ Refusal) Front} →
    Refuses ShortOutput front r → length out < lag →
    FlushesLent front r (record { given = history; left = history }) (record { given = out; left = out })
room_refused {front} {history} {out} refuses h =
    let st = state_of front history in
    record {
      writes = writes_refused (refused_said k5 lag st (length out) h) (ap answer_said refuses.answer) refl;
      state = ap (λ (f : Front). state_of f history) refuses.state ∙ refused_state k5 lag st (length out) h;
    }

-- ---- symbol by symbol

-- The invariant: after i symbols (0, 0) there is the state after them, with their bits at the front of out.
pub record Flushing (front₀ : Front) (history₀ old : List ℕ) (i : ℕ) (front : Front) (history out : List ℕ) (written : ℕ) : Type 0 where
  pub room : lag ≤ length old
  pub few : i ≤ lag
  pub ran : Ran k5 lag (state_of front₀ history₀) old (replicate i nought) i (state_of front history) out written

pub flushing_starts : (front : Front) (history old : List ℕ) → lag ≤ length old → Flushing front history old 0 front history old 0
flushing_starts front history old h = record { room = h; few = omega arith; ran = ran_none }

module _ {front₀ : Front} {history₀ old : List ℕ} {i : ℕ} {front : Front} {out : List ℕ} {written : ℕ} where
  flushing_inside : {history : List ℕ} → Flushing front₀ history₀ old i front history out written → i < lag → written < length out
  flushing_inside so_far h = written_inside so_far.ran.bits h so_far.room

  module _
      {next : Front} {history : Lent ℕ}
      (so_far : Flushing front₀ history₀ old i front history.given out written) (h : i < lag)
      (advances : Advances front zero32 zero32 next history) where
    abbrev st : State
    st = state_of front₀ history₀

    abbrev bits : List ℕ
    bits = run_gives k5 lag st (replicate i nought)

    more :
        {new : List ℕ} {count : ℕ} →
        Ran k5 lag st old (nought ∷ replicate i nought) (i + 1) (state_of next history.left) new count →
        Flushing front₀ history₀ old (i + 1) next history.left new count
    more {new} {count} ran =
        record {
          room = so_far.room;
          few = omega arith;
          ran =
              subst (λ (n : ℕ). Ran k5 lag st old (replicate n nought) (i + 1) (state_of next history.left) new count)
              (sym (add-one i)) ran;
        }

    pub flushing_nothing :
        {new : List ℕ} {count : ℕ} → next.count ≤ lag → new ≡ out → count ≡ written →
        Flushing front₀ history₀ old (i + 1) next history.left new count
    flushing_nothing {new} {count} none same same_count =
        more
        (ran_more nought so_far.ran advances.state (none_given _ none)
        (as_before old bits _ i out written so_far.ran.bits new count (sym (append-nil bits)) same same_count))

    pub flushing_bit :
        {new :
        List ℕ} {count : ℕ} (b : ℕ) → lag < next.count → b ≡ bit_behind k5 lag (state_of next history.left) →
        new ≡ set out written b →
        count ≡ written + 1 → Flushing front₀ history₀ old (i + 1) next history.left new count
    flushing_bit {new} {count} b due is put one =
        more
        (ran_more nought so_far.ran advances.state (one_given _ b due is)
        (one_more old bits _ i out written so_far.ran.bits new count b (flushing_inside so_far h) refl put one))

  pub flushing_ends :
      {history : List ℕ} → Flushing front₀ history₀ old i front history out written → lag ≤ i →
      FlushesLent front₀ (record { answer = Ok written; coder = front }) (record { given = history₀; left = history })
      (record { given = old; left = out })
  flushing_ends {history} so_far h =
      let st = state_of front₀ history₀ in
      let end : i ≡ lag = le_antisymm so_far.few h in
      let state : state_of front history ≡ after k5 lag st (replicate lag nought) =
      so_far.ran.state ∙ ap (λ (n : ℕ). after k5 lag st (replicate n nought)) end in
      let bits : run_gives k5 lag st (replicate i nought) ≡ flush_gives k5 lag st =
      ap (λ (n : ℕ). run_gives k5 lag st (replicate n nought)) end ∙ flush_gives-run k5 lag st in
      let w = subst (λ (l : List ℕ). Written old l i out written) bits so_far.ran.bits in
      record {
        writes = writes_accepted (accepted_said k5 lag st (length old) so_far.room) (ap accepted w.counted) w.filled;
        state = state ∙ accepted_state k5 lag st (length old) so_far.room;
      }
