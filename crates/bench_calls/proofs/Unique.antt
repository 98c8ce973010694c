-- Of each function, any two outcomes that its contract allows are equal. `Post` is the contract as the prover reads it: of
-- what the call is given, what it returns, and what it leaves in each argument. The laws of the two in place are over
-- the records that their contracts cite. Assumes nothing.
use mathlib.Core.List.{List}
use mathlib.Core.Path.{◌≡◌, sym, ◌∙◌}
use Prim.Native.Nat.{ℕ}
use lib.Ieee.{Float}
use Rattle.refusal.specs.Answer.{Numbers}
use Rattle.refusal.proofs.Determined.{OnceLeft, OnceBoth, Determined₂, Determined₃, Telling, writes_once, both_once}
use Rattle.refusal.proofs.Told.{numbers_tell}
use Rattle.streaming.specs.declared.StreamingViterbi.{StreamingViterbi}
use Rattle.streaming.specs.Decoder.{held}
use Rattle.streaming.specs.Promise.{Feeds, Flushes}
use Rattle.streaming.proofs.Unique.{held_told, feeds_once, flushes_once}
use Rattle.bench_calls.specs.Number.{EmitNumbers}
use Rattle.bench_calls.proofs.timed_viterbi_decode.Reads as timed_viterbi_decode
use Rattle.bench_calls.proofs.timed_stream.Reads as timed_stream
use Rattle.bench_calls.proofs.timed_varicode_decode.Reads as timed_varicode_decode

pub timed_decode_once :
    (κs soft out scratch : _) →
    OnceBoth (λ r left work. timed_viterbi_decode.Post κs (soft, (out, (scratch, tt))) r (soft, (left, (work, tt))))
timed_decode_once κs soft out scratch = both_once Numbers numbers_tell _ _ _ _ _

pub timed_stream-once :
    (κs soft out : _) → OnceLeft (λ r left. timed_stream.Post κs (soft, (out, tt)) r (soft, (left, tt)))
timed_stream-once κs soft out = writes_once Numbers numbers_tell _ _ _

emit_numbers_tell : Telling EmitNumbers
emit_numbers_tell said r r' p q = p ∙ sym q

pub timed_feed-once :
    (d : StreamingViterbi) (re im : Float) →
    Determined₂ (λ (r : ℕ) (left : StreamingViterbi). Feeds (EmitNumbers r) (held d) (held left) re im)
timed_feed-once d re im r r' left left' p q =
    let (answer, state) = feeds_once EmitNumbers emit_numbers_tell (held d) re im r r' _ _ p q in
    (answer, held_told left left' state)

pub timed_flush-once :
    (d : StreamingViterbi) (old : List ℕ) →
    Determined₃ (λ (r : ℕ) (left : StreamingViterbi) (out : List ℕ).
    Flushes (Numbers r) (held d) (held left) (record { given = old; left = out }))
timed_flush-once d old r r' left left' out out' p q =
    let (answer, state, output) = flushes_once Numbers numbers_tell (held d) old r r' _ _ out out' p q in
    (answer, held_told left left' state, output)

pub timed_varicode_decode-once :
    (κs given : _) (r r' : ℕ) (left left' : _) →
    timed_varicode_decode.Post κs given r left → timed_varicode_decode.Post κs given r' left' → r ≡ r'
timed_varicode_decode-once κs given r r' left left' p q = p ∙ sym q
