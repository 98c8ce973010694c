-- Read-back's premise can be met, for either reader: calls that fit can all be relayed, and so can every text of bytes below 128, with any
-- opening and any closing that fit, or with no opening. So can that of pauses. Assumes nothing.
use mathlib.Core.Bool.{Bool, true, false}
use mathlib.Core.List.{List, [], ◌∷◌, ◌++◌}
use mathlib.Core.Path.{◌≡◌, sym, subst}
use Prim.Native.Nat.{ℕ, ◌≤◌}
use native.Mathlib.Omega.{arith}
use lib.Dec.{lit<}
use lib.ListN.{length, replicate}
use Rattle.binary.proofs.Values.{Bits}
use Rattle.queue.specs.Ring.{inside, elements, bit_room}
use Rattle.varicode_words.proofs.Facts.{any_word_length}
use Rattle.varicode_writer.specs.Writer.{Call, opening, closing, gap}
use Rattle.varicode_writer.proofs.Puts.{opening_not_high, closing_not_high, low_byte_not_high, not_high_byte_low}
use Rattle.varicode_writer.proofs.Puts.{length-opening, length-byte, length-closing}
use Rattle.read_back.specs.Runs.{Text, none, more, written, Relayed, Fits, AllFit, OpeningsFit, BytesFit, ClosingsFit}
use Rattle.read_back.specs.Claims.{Key, keyed}
use Rattle.read_back.proofs.Drained.{calls_drained}
use Rattle.read_back.proofs.Emptied.{Emptied, bits_emptied}
use Rattle.read_back.proofs.Streams.{append_bits, run_bits, stream_bits, keyed_bits}
use Rattle.read_back.proofs.WriterRuns.{all_handed_out}

pub calls_relayed : (p : Bool) (calls : List Call) → AllFit calls → Relayed p calls
unfolding inside elements
calls_relayed p calls fit =
    let d = calls_drained calls fit in
    let all : inside bit_room d.writer.pending ≡ [] = rw d.none in
    let e = bits_emptied p d.sent (subst Bits (sym (all_handed_out d.wrote all)) (stream_bits true calls)) in
    record { writer = d.writer; reader = e.reader; sent = d.sent; got = e.got; wrote = d.wrote; all = all; read = e.read }

-- ---- what fits

gap_short : (first : Bool) → length (gap first) ≤ length (gap false)
gap_short true = omega arith
gap_short false = omega arith

pub opening_fits : OpeningsFit
opening_fits n = (
  (λ few. record { low = opening_not_high n; few = λ first. omega (arith, length-opening first n) }),
  (λ fits. omega (arith, fits.few true, length-opening true n)),
)

pub byte_fits : BytesFit
byte_fits b = (
  (λ low.
      record {
        low = low_byte_not_high b low;
        few = λ first. omega (arith, length-byte first b, gap_short first, (any_word_length b).1);
      }),
  (λ fits. not_high_byte_low b fits.low),
)

pub closing_fits : ClosingsFit
closing_fits n = (
  (λ few. record { low = closing_not_high n; few = λ first. omega (arith, length-closing first n, gap_short first) }),
  (λ fits. omega (arith, fits.few false, length-closing false n)),
)

-- ---- every text

text_fits : {text : List ℕ} → Text text → (n : ℕ) → Fits (closing n) → AllFit (written text n)
text_fits none n fits = (fits, tt)
text_fits (more {b} low t) n fits = ((byte_fits b).0 low, text_fits t n fits)

module _ (p : Bool) {text : List ℕ} (t : Text text) where
  pub text_relayed : (k n : ℕ) → Fits (opening k) → Fits (closing n) → Relayed p (opening k ∷ written text n)
  text_relayed k n opens closes = calls_relayed p (opening k ∷ written text n) (opens, text_fits t n closes)

  pub unopened_text_relayed : (n : ℕ) → Fits (closing n) → Relayed p (written text n)
  unopened_text_relayed n closes = calls_relayed p (written text n) (text_fits t n closes)

-- ---- every text that is keyed

pub keys_emptied : (p : Bool) (keys : List Key) (k n : ℕ) → Emptied p (replicate k 0 ++ (keyed keys ++ replicate n 1))
keys_emptied p keys k n =
    bits_emptied p _ (append_bits (run_bits k 0 (lit< tt)) (append_bits (keyed_bits keys) (run_bits n 1 (lit< tt))))
