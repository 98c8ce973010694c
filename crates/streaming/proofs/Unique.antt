-- Of each entry, any two outcomes that its contract allows are equal. `Post` is the contract as the prover reads it: of what
-- the call is given, what it returns, and what it leaves in each argument. `held` tells two decoders apart, field by field.
-- The laws of the entries in place are over the records that their contracts cite. Assumes nothing.
use mathlib.Core.List.{List}
use mathlib.Core.Path.{◌≡◌, ap, sym, ◌∙◌}
use Prim.Native.Nat.{ℕ}
use lib.Ieee.{Float}
use Rattle.std.specs.Prelude.{Option, Some, None, Result, Ok, Err}
use Rattle.refusal.specs.Answer.{Said, Says}
use Rattle.refusal.specs.declared.Answered.{Answered}
use Rattle.refusal.specs.declared.Refusal.{Refusal}
use Rattle.refusal.proofs.Told.{same_refusal, answered_told, says_tell}
use Rattle.refusal.proofs.Determined.{Once, OnceLeft, Determined₂, Determined₃, Telling}
use Rattle.streaming.specs.declared.StreamingViterbi.{StreamingViterbi}
use Rattle.streaming.specs.Stream.{State}
use Rattle.streaming.specs.Said.{emitted_said, Emits}
use Rattle.streaming.specs.Decoder.{held}
use Rattle.streaming.specs.Promise.{Feeds, Flushes}
use Rattle.streaming.proofs.StreamingViterbi.new.Reads as new
use Rattle.streaming.proofs.StreamingViterbi.feed_symbol.Reads as feed_symbol
use Rattle.streaming.proofs.StreamingViterbi.flush.Reads as flush_by_value

-- ---- by the records that contracts cite

pub feeds_once :
    {R : Type 0} (Answers : R → Said (List ℕ) → Type 0) → Telling Answers →
    (given : State) (re im : Float) → Determined₂ (λ (r : R) (left : State). Feeds (Answers r) given left re im)
feeds_once Answers telling given re im r r' left left' p q =
    (telling _ r r' p.answer q.answer, p.state ∙ sym q.state)

pub flushes_once :
    {R : Type 0} (Answers : R → Said ℕ → Type 0) → Telling Answers → (given : State) (old : List ℕ) →
    Determined₃ (λ (r : R) (left : State) (out : List ℕ). Flushes (Answers r) given left (record { given = old; left = out }))
flushes_once Answers telling given old r r' left left' out out' p q = (
  telling _ r r' p.writes.answer q.writes.answer,
  p.state ∙ sym q.state,
  p.writes.output ∙ sym q.writes.output,
)

-- ---- answers and decoders

-- the record that a state is
abbrev decoder_of : State → StreamingViterbi
decoder_of st = record { front = record { pm = st.pm; count = st.count; turn = st.turn }; history = st.history }

pub held_told : (d e : StreamingViterbi) → held d ≡ held e → d ≡ e
held_told d e = ap decoder_of

-- two answers to a symbol of which document 01 says the same are equal
pub emitted_told : (a b : Result (Option ℕ) Refusal) → emitted_said a ≡ emitted_said b → a ≡ b
emitted_told (Ok (Some m)) (Ok (Some n)) e = cc
emitted_told (Ok (Some m)) (Ok None) e = cc
emitted_told (Ok (Some m)) (Err r) e = cc
emitted_told (Ok None) (Ok (Some n)) e = cc
emitted_told (Ok None) (Ok None) e = cc
emitted_told (Ok None) (Err r) e = cc
emitted_told (Err q) (Ok (Some n)) e = cc
emitted_told (Err q) (Ok None) e = cc
emitted_told (Err q) (Err r) e = ap Err (same_refusal q r (cc) (cc))

pub emits_tell : Telling Emits
emits_tell said r r' p q = emitted_told r r' (p ∙ sym q)

-- ---- by value

pub new_once : (κs : _) → Once (λ (r : StreamingViterbi). new.Post κs tt r tt)
new_once κs r r' p q = held_told r r' (p.state ∙ sym q.state)

pub feed_symbol-once :
    (κs d re im : _) →
    Once (λ (r : Answered (Result (Option ℕ) Refusal) StreamingViterbi).
    feed_symbol.Post κs (d, (re, (im, tt))) r (d, (re, (im, tt))))
feed_symbol-once κs d re im r r' p q =
    let (answer, state) = feeds_once Emits emits_tell (held d) re im r.answer r'.answer _ _ p q in
    answered_told r r' answer (held_told r.coder r'.coder state)

pub flush_by_value_once :
    (κs d out : _) →
    OnceLeft (λ (r : Answered (Result ℕ Refusal) StreamingViterbi) left.
    flush_by_value.Post κs (d, (out, tt)) r (d, (left, tt)))
flush_by_value_once κs d out r r' left left' p q =
    let (answer, state, output) = flushes_once Says says_tell (held d) out.now r.answer r'.answer _ _ _ _ p q in
    (answered_told r r' answer (held_told r.coder r'.coder state), output)

-- ---- in place

pub feed_in_place_once :
    (d : StreamingViterbi) (re im : Float) →
    Determined₂ (λ (r : Result (Option ℕ) Refusal) (left : StreamingViterbi). Feeds (Emits r) (held d) (held left) re im)
feed_in_place_once d re im r r' left left' p q =
    let (answer, state) = feeds_once Emits emits_tell (held d) re im r r' _ _ p q in
    (answer, held_told left left' state)

pub flush_in_place_once :
    (d : StreamingViterbi) (old : List ℕ) →
    Determined₃ (λ (r : Result ℕ Refusal) (left : StreamingViterbi) (out : List ℕ).
    Flushes (Says r) (held d) (held left) (record { given = old; left = out }))
flush_in_place_once d old r r' left left' out out' p q =
    let (answer, state, output) = flushes_once Says says_tell (held d) old r r' _ _ out out' p q in
    (answer, held_told left left' state, output)
