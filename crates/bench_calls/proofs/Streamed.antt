-- A stream, symbol by symbol: the state after those that were accepted, and their bits at the front of the output. Assumes
-- nothing.
use mathlib.Core.List.{List, [], ◌++◌}
use mathlib.Core.Path.{◌≡◌, refl, sym, ap, ap₂, subst, subst₂, ◌∙◌}
use Prim.Native.Nat.{ℕ, ◌+◌, ◌*◌, ◌/◌, ◌-◌, ◌≤◌, ◌<◌}
use native.Mathlib.Nat.{le_antisymm}
use native.Mathlib.Numerals.{add-one}
use native.Mathlib.Omega.{arith}
use borrow.Author.Tests.{lt-ltb, le-ltb}
use lib.Dec.{ltb}
use lib.Ieee.{Float, nan}
use lib.ListN.{length, take, drop, get_or, set, length-append, length-drop, get_or-append}
use lib.Seq.{length-take-le, drop-append_seam, drop-drop, get_or-drop}
use Rattle.std.specs.Prelude.{Option, Some, None, Result, Ok, Err}
use Rattle.refusal.specs.Answer.{accepted, refused, Says}
use Rattle.refusal.specs.Lent.{over, Lent}
use Rattle.refusal.specs.declared.Refusal.{Refusal}
use Rattle.refusal.specs.declared.Refusal.TheVariants as refusal
use Rattle.refusal.specs.Numbers.{short_output}
use Rattle.refusal.proofs.Filling.{Written, written_inside}
use Rattle.refusal.proofs.Told.{refused_when, passed_when}
use Rattle.refusal.proofs.Over.{over_kept, over_set, over_more, length_over, writes_refused, writes_accepted}
use Rattle.streaming_steps.specs.Steps.{lag}
use Rattle.streaming.specs.declared.StreamingViterbi.{StreamingViterbi}
use Rattle.streaming.specs.Decoder.{held}
use Rattle.streaming.specs.Promise.{Begins, Feeds}
use Rattle.streaming.specs.Run.{run_gives}
use Rattle.streaming.specs.Said.{emitted_said, bits_in, Emits}
use Rattle.streaming.specs.Stream.{State, fresh}
use Rattle.streaming.proofs.Running.{Ran, ran_none, ran_fed}
use Rattle.trellis.specs.Choice.{k5}
use Rattle.bench_calls.specs.Inner.{PutsBits}
use Rattle.bench_calls.specs.Promise.{Streams}
use Rattle.bench_calls.specs.Stream.{accepted_of, stream_gives, stream_said}

-- ---- a bit put, or none

module _ {answer : Result (Option ℕ) Refusal} {at : ℕ} {out : List ℕ} where
  none_put : bits_in (emitted_said answer) ≡ [] → at ≤ length out → PutsBits answer at at (record { given = out; left = out })
  none_put e h = record { place = rw e (omega arith); output = rw e (over_kept out at h) }

  pub bit_put :
      {b : ℕ} → answer ≡ Ok (Some b) → at < length out →
      PutsBits answer at (at + 1) (record { given = out; left = set out at b })
  bit_put {b} e h = record { place = rw e (omega arith); output = rw e (over_set out at b h) }

  pub nothing_put : answer ≡ Ok None → at < length out → PutsBits answer at at (record { given = out; left = out })
  nothing_put e h = none_put (ap (λ (a : Result (Option ℕ) Refusal). bits_in (emitted_said a)) e) (omega arith)

  pub refusal_put :
      {r : _} → answer ≡ Err r → at < length out → PutsBits answer at at (record { given = out; left = out })
  refusal_put e h = none_put (ap (λ (a : Result (Option ℕ) Refusal). bits_in (emitted_said a)) e) (omega arith)

-- a symbol brings one bit at most
few_bits : (answer : Result (Option ℕ) Refusal) → length (bits_in (emitted_said answer)) ≤ 1
few_bits (Ok (Some b)) = omega arith
few_bits (Ok None) = omega arith
few_bits (Err r) = omega arith

-- behind the bits before it
written_put :
    {old bits : List ℕ} {i written count : ℕ} {answer : Result (Option ℕ) Refusal} {out : Lent ℕ} →
    Written old bits i out.given written → written < length out.given → PutsBits answer written count out →
    Written old (bits ++ bits_in (emitted_said answer)) (i + 1) out.left count
written_put {old} {bits} {i} {written} {count} {answer} {out} so_far inside puts =
    let more = bits_in (emitted_said answer) in
    let front : length (take written out.given ++ more) ≡ written + length more =
    length-append (take written out.given) more
    ∙ ap (λ (n : ℕ). n + length more) (length-take-le written out.given (omega arith)) in
    record {
      sized =
          ap length puts.output
          ∙ length_over (take written out.given ++ more) out.given (omega (arith, front, few_bits answer))
          ∙ so_far.sized;
      counted = puts.place ∙ ap (λ (n : ℕ). n + length more) so_far.counted ∙ sym (length-append bits more);
      few = omega (arith, puts.place, so_far.few, few_bits answer);
      filled =
          puts.output
          ∙ ap (λ (l : List ℕ). over (take written l ++ more) l) so_far.filled
          ∙ over_more bits more old written so_far.counted;
    }

-- ---- the stream

-- The state after i symbols: the decoder and the bits at the front of out are those of the accepted ones.
pub record Streaming (soft : List Float) (old : List ℕ) (i : ℕ) (d : StreamingViterbi) (out : List ℕ) (written : ℕ) : Type 0 where
  pub room : length soft / 2 ≤ length old
  pub few : i ≤ length soft / 2
  pub ran : Ran k5 lag (fresh k5 lag) old (accepted_of soft i) i (held d) out written

pub streaming_starts :
    {soft : List Float} {old : List ℕ} {d : StreamingViterbi} → Begins (held d) → length soft / 2 ≤ length old →
    Streaming soft old 0 d old 0
unfolding accepted_of
streaming_starts {soft} {old} begins h =
    record {
      room = h;
      few = omega arith;
      ran = subst (λ (st : State). Ran k5 lag (fresh k5 lag) old [] 0 st old 0) (sym begins.state) ran_none;
    }

module _ {soft : List Float} {old : List ℕ} {i : ℕ} {d : StreamingViterbi} {written : ℕ} where
  pub streaming_inside :
      {out : List ℕ} → Streaming soft old i d out written → i < length soft / 2 → written < length out
  streaming_inside so_far h = written_inside so_far.ran.bits h so_far.room

  pub streaming_goes_on :
      {next : StreamingViterbi} {answer : Result (Option ℕ) Refusal} {count : ℕ} {out : Lent ℕ} →
      Streaming soft old i d out.given written → i < length soft / 2 →
      Feeds (Emits answer) (held d) (held next) (get_or soft (2 * i) nan) (get_or soft (2 * i + 1) nan) →
      PutsBits answer written count out → Streaming soft old (i + 1) next out.left count
  unfolding accepted_of
  streaming_goes_on {next} {answer} {count} {out} so_far h feeds puts =
      let w = written_put so_far.ran.bits (streaming_inside so_far h) puts in
      let ran = ran_fed _ _ (emitted_said answer) so_far.ran feeds.answer feeds.state w in
      record {
        room = so_far.room;
        few = omega arith;
        ran =
            subst (λ (n : ℕ). Ran k5 lag (fresh k5 lag) old (accepted_of soft n) (i + 1) (held next) out.left count)
            (sym (add-one i)) ran;
      }

-- ---- the components that are left, from the next symbol on

pub record Ahead (soft : List Float) (i : ℕ) (left : List Float) (size : ℕ) : Type 0 where
  pub some : 2 * i ≤ length soft
  pub rest : left ≡ drop (2 * i) soft
  pub pairs : size ≡ 2

pub ahead_starts : {soft left : List Float} {size : ℕ} → left ≡ soft → size ≡ 2 → Ahead soft 0 left size
ahead_starts rest pairs = record { some = omega arith; rest = rest; pairs = pairs }

module _ {soft : List Float} {i : ℕ} {left : List Float} {size : ℕ} (ahead : Ahead soft i left size) where
  left_long : length left ≡ length soft - 2 * i
  left_long = ap length ahead.rest ∙ length-drop (2 * i) soft

  pub ahead_ends : length left < size → length soft / 2 ≤ i
  ahead_ends short = omega (arith, short, left_long, ahead.pairs, ahead.some)

  module _ (symbol behind : List Float) (cut : left ≡ symbol ++ behind) (pair : length symbol ≡ size) where
    cut_long : length left ≡ 2 + length behind
    cut_long = ap length cut ∙ length-append symbol behind ∙ ap (λ (n : ℕ). n + length behind) (pair ∙ ahead.pairs)

    pub ahead_inside : i < length soft / 2
    ahead_inside = omega (arith, cut_long, left_long, ahead.some)

    pub ahead_goes_on : {next : ℕ} → next ≡ size → Ahead soft (i + 1) behind next
    ahead_goes_on {next} same =
        let seam : drop 2 left ≡ behind =
        ap₂ (λ (n : ℕ) (l : List Float). drop n l) (sym (pair ∙ ahead.pairs)) cut ∙ drop-append_seam symbol behind in
        let place : 2 * i + 2 ≡ 2 * (i + 1) = omega arith in
        record {
          some = omega (arith, cut_long, left_long, ahead.some);
          rest =
              sym seam ∙ ap (λ (l : List Float). drop 2 l) ahead.rest ∙ drop-drop 2 (2 * i) soft
              ∙ ap (λ (n : ℕ). drop n soft) place;
          pairs = same ∙ ahead.pairs;
        }

    -- a component of the symbol that is cut off is that of its number
    component_is : (k : ℕ) {n : ℕ} → k < 2 → 2 * i + k ≡ n → get_or symbol k nan ≡ get_or soft n nan
    component_is k h e =
        sym (get_or-append symbol behind nan k (omega (arith, pair, ahead.pairs)))
        ∙ ap (λ (l : List Float). get_or l k nan) (sym cut ∙ ahead.rest)
        ∙ get_or-drop (2 * i) soft k nan
        ∙ ap (λ (n : ℕ). get_or soft n nan) e

-- The invariant: the first i symbols are fed, and the others are ahead.
pub record Turning
    (soft : List Float) (old : List ℕ) (i : ℕ) (d : StreamingViterbi) (out : List ℕ) (written : ℕ) (left : List Float)
    (size : ℕ) : Type 0 where
  pub fed : Streaming soft old i d out written
  pub ahead : Ahead soft i left size

-- one turn: a symbol is cut off and fed
pub symbol_fed :
    {soft : List Float} {old : List ℕ} {i n : ℕ} {d next : StreamingViterbi} {left : List Float} (symbol behind : List Float)
    {size same written count : ℕ} {answer : Result (Option ℕ) Refusal} {out : Lent ℕ} →
    Turning soft old i d out.given written left size → left ≡ symbol ++ behind → length symbol ≡ size → same ≡ size →
    Feeds (Emits answer) (held d) (held next) (get_or symbol 0 nan) (get_or symbol 1 nan) →
    PutsBits answer written count out → n ≡ i + 1 → Turning soft old n next out.left count behind same
symbol_fed {soft} {i = i} {d = d} {next = next} symbol behind {answer = answer} so_far cut pair same feeds puts e =
    let ahead = so_far.ahead in
    let re : get_or symbol 0 nan ≡ get_or soft (2 * i) nan =
    component_is ahead symbol behind cut pair 0 (omega arith) (omega arith) in
    let im : get_or symbol 1 nan ≡ get_or soft (2 * i + 1) nan =
    component_is ahead symbol behind cut pair 1 (omega arith) refl in
    let feeds_own = subst₂ (λ (x y : Float). Feeds (Emits answer) (held d) (held next) x y) re im feeds in
    rw e
    (record {
      fed = streaming_goes_on so_far.fed (ahead_inside ahead symbol behind cut pair) feeds_own puts;
      ahead = ahead_goes_on ahead symbol behind cut pair same;
    })

-- ---- the answers

module _ (soft : List Float) (room : ℕ) where
  refused_said : room < length soft / 2 → stream_said soft room ≡ refused short_output 0
  unfolding stream_said
  refused_said h = sym (refused_when (ltb room (length soft / 2)) 4 _ (lt-ltb room (length soft / 2) h))

  accepted_said : length soft / 2 ≤ room → stream_said soft room ≡ accepted (length (stream_gives soft))
  unfolding stream_said
  accepted_said h = sym (passed_when (ltb room (length soft / 2)) 4 _ (le-ltb room (length soft / 2) h))

pub stream_refused :
    (soft : List Float) {out : List ℕ} → length out < length soft / 2 →
    Streams (Says (Err refusal.ShortOutput)) soft (record { given = out; left = out })
stream_refused soft {out} h = writes_refused (refused_said soft (length out) h) refl refl

stream_bits : (soft : List Float) → run_gives k5 lag (fresh k5 lag) (accepted_of soft (length soft / 2)) ≡ stream_gives soft
unfolding stream_gives
stream_bits soft = refl

pub streaming_ends :
    {soft : List Float} {old : List ℕ} {i : ℕ} {d : StreamingViterbi} {out : List ℕ} {written : ℕ} →
    Streaming soft old i d out written → length soft / 2 ≤ i →
    Streams (Says (Ok written)) soft (record { given = old; left = out })
streaming_ends {soft} {old} {i} {d} {out} {written} so_far h =
    let bits : run_gives k5 lag (fresh k5 lag) (accepted_of soft i) ≡ stream_gives soft =
    ap (λ (n : ℕ). run_gives k5 lag (fresh k5 lag) (accepted_of soft n)) (le_antisymm so_far.few h) ∙ stream_bits soft in
    let w = subst (λ (l : List ℕ). Written old l i out written) bits so_far.ran.bits in
    writes_accepted (accepted_said soft (length old) so_far.room) (ap accepted w.counted) w.filled
