-- What the stream of a text reads as: one opening or none, the bytes, one closing give the text, letter for letter. The opening is even for
-- document 01's reader, and any for the reader for pauses. What was relayed is a text, of bytes below 128. Assumes nothing.
use mathlib.Core.Bool.{Bool, true, false}
use mathlib.Core.List.{List, [], ◌∷◌, ◌++◌, append-nil}
use mathlib.Core.Path.{◌≡◌, refl, ap, ◌∙◌}
use Prim.Native.Nat.{ℕ, zero, suc, ◌*◌, ◌<◌}
use native.Mathlib.Nat.{mod-eq_of_lt}
use native.Mathlib.Omega.{arith}
use lib.ListN.{replicate}
use Rattle.binary.specs.Digits.{digits, value}
use Rattle.binary.proofs.Values.{length_digits, value_digits}
use Rattle.varicode_reader.specs.Reader.{nothing_heard, letters_from}
use Rattle.varicode_words.specs.Word.{length_of, word_of, bits_of}
use Rattle.varicode_words.proofs.Facts.{word_sized, word_rule, word_decodes}
use Rattle.varicode_writer.specs.Writer.{Call, opening, bits_put, first_after, stream_from}
use Rattle.varicode_writer.proofs.Puts.{not_high_byte_low}
use Rattle.read_back.specs.Runs.{Text, none, more, written, Relayed, received, ReadsBack, ReadsBackAnyOpening, ReadsBackUnopened}
use Rattle.read_back.proofs.Words.{word_read, zeros_read, zeros_skipped, ones-read}
use Rattle.read_back.proofs.WriterRuns.{all_handed_out, AllLow, run_low}
use Rattle.read_back.proofs.ReaderRuns.{reader_hands_out}

-- once a byte has been written the gap comes first
pub after_byte : (text : List ℕ) (n : ℕ) → stream_from false (written text n) ≡ 0 ∷ (0 ∷ stream_from true (written text n))
unfolding stream_from bits_put first_after
after_byte [] n = refl
after_byte (b ∷ text) n = refl

-- document 01's reader reads an even opening as nothing
zeros_first :
    (k : ℕ) (tail : List ℕ) → letters_from false nothing_heard (replicate (2 * k) 0 ++ tail) ≡ letters_from false nothing_heard tail
zeros_first zero tail = refl
zeros_first (suc k) tail =
    let more_zeros : 2 * suc k ≡ suc (suc (2 * k)) = omega arith in
    rw more_zeros (zeros_read (replicate (2 * k) 0 ++ tail) ∙ zeros_first k tail)

module _ (p : Bool) where
  -- a byte's word and the gap behind it
  pub byte_read :
      (b : ℕ) → b < 128 → (tail : List ℕ) →
      letters_from p nothing_heard (bits_of (word_of b) ++ (0 ∷ (0 ∷ tail))) ≡ b ∷ letters_from p nothing_heard tail
  unfolding bits_of
  byte_read b h tail =
      let word = word_of b in
      let size = length_digits (length_of word) word in
      let same : value (digits (length_of word) word) ≡ word = value_digits (length_of word) word ∙ mod-eq_of_lt (word_sized b h) in
      word_read p (word_rule b h) tail ∙ rw (same, size, word_decodes b h)

  text_read : {text : List ℕ} → Text text → (n : ℕ) → letters_from p nothing_heard (stream_from true (written text n)) ≡ text
  unfolding stream_from bits_put first_after
  text_read none n = rw (append-nil (replicate {A = ℕ} n 1)) (ones-read p n nothing_heard)
  text_read (more {b} {bs} h r) n =
      ap (λ (l : List ℕ). letters_from p nothing_heard (bits_of (word_of b) ++ l)) (after_byte bs n)
      ∙ byte_read b h (stream_from true (written bs n)) ∙ ap (λ (l : List ℕ). b ∷ l) (text_read r n)

-- what is received is what the calls' stream reads as
relayed_read : {p : Bool} {calls : List Call} (r : Relayed p calls) → received r ≡ letters_from p nothing_heard (stream_from true calls)
relayed_read {p} r = reader_hands_out r.read ∙ ap (letters_from p nothing_heard) (all_handed_out r.wrote r.all)

-- bytes of which none is high are a text
low_text : (text : List ℕ) (n : ℕ) → AllLow (written text n) → Text text
low_text [] n low = none
low_text (b ∷ text) n low = more (not_high_byte_low b low.0) (low_text text n low.1)

-- only texts are relayed
pub relayed_text : {p : Bool} {k : ℕ} (text : List ℕ) (n : ℕ) → Relayed p (opening k ∷ written text n) → Text text
relayed_text text n r = low_text text n (run_low r.wrote).1

pub unopened_relayed_text : {p : Bool} (text : List ℕ) (n : ℕ) → Relayed p (written text n) → Text text
unopened_relayed_text text n r = low_text text n (run_low r.wrote)

-- so that a notice reads back
pub read_back : ReadsBack
unfolding stream_from bits_put first_after
read_back text k n r = relayed_read r ∙ zeros_first k (stream_from true (written text n)) ∙ text_read false (relayed_text text n r) n

pub read_back_any_opening : ReadsBackAnyOpening
unfolding stream_from bits_put first_after
read_back_any_opening text k n r =
    relayed_read r ∙ zeros_skipped k (stream_from true (written text n)) ∙ text_read true (relayed_text text n r) n

pub read_back_unopened : ReadsBackUnopened
read_back_unopened text n p r = relayed_read r ∙ text_read p (unopened_relayed_text text n r) n
