-- The calls that put bits: refused for a byte of 128 or above, then where the bits don't all fit, and otherwise with the bits behind the
-- others. Assumes nothing.
use mathlib.Core.Bool.{Bool, true, false}
use mathlib.Core.List.{List, ◌++◌}
use mathlib.Core.Path.{◌≡◌, refl, sym, ap, ◌∙◌}
use Prim.Native.Nat.{ℕ, ◌+◌, ◌≤◌, ◌<◌}
use native.Mathlib.Omega.{arith}
use borrow.Author.Tests.{lt-ltb, le-ltb, le-leb, lt-leb, leb-false}
use lib.Dec.{lit<}
use lib.ListN.{length, replicate, length-append, length-replicate}
use Rattle.binary.specs.Digits.{digits}
use Rattle.binary.proofs.Values.{length_digits}
use Rattle.queue.specs.declared.Queue.{Queue}
use Rattle.queue.specs.Records.{ring}
use Rattle.queue.specs.Ring.{Ring, read_as, put_all, bit_room}
use Rattle.queue.proofs.Rings.{read_room, put_all-append, put_all-room}
use Rattle.refusal.specs.Answer.{refused, answer_said, Refuses}
use Rattle.refusal.specs.declared.Refusal.{Refusal}
use Rattle.refusal.specs.declared.Refusal.TheVariants.{BadByte}
use Rattle.refusal.specs.Numbers.{queue_full, bad_byte}
use Rattle.varicode_words.specs.Word.{length_of, word_of, bits_of}
use Rattle.varicode_writer.specs.declared.VaricodeEncoder.{VaricodeEncoder}
use Rattle.varicode_writer.specs.Writer.{Call, opening, byte, closing, gap, bits_put, first_after}
use Rattle.varicode_writer.specs.Writer.{Writer, high_byte, too_many, put_said, put_leaves}
use Rattle.varicode_writer.specs.Records.{writer, Wrote}
use Rattle.varicode_writer.specs.Promise.{Puts}
use Rattle.varicode_writer.specs.Inner.{Accepts, held, Spaced, Full}

-- what fits behind a gap has room there
pub spaced_room :
    (w : Writer) (padding n : ℕ) (q new : Ring) → q ≡ read_as bit_room w.pending → q.count + (padding + n) ≤ bit_room →
    new ≡ put_all bit_room q (replicate padding 0) → Spaced w padding n new
spaced_room w padding n q new read fits e =
    let before = read_room (lit< tt) w.pending in
    let enough : held w + (padding + n) ≤ bit_room = rw read at fits in
    record {
      fits = enough;
      pending = e ∙ rw read refl;
      room =
          rw (e, read)
          (put_all-room (replicate padding 0)
          (record { head = before.head; count = omega (arith, length-replicate {A = ℕ} padding 0) }));
    }

-- ---- a byte of 128 or above, and what is none

module _ (b : ℕ) where
  pub byte_high : 128 ≤ b → high_byte (byte b) ≡ true
  unfolding high_byte
  byte_high = le-leb 128 b

  pub low_byte_not_high : b < 128 → high_byte (byte b) ≡ false
  unfolding high_byte
  low_byte_not_high = lt-leb 128 b

  pub not_high_byte_low : high_byte (byte b) ≡ false → b < 128
  unfolding high_byte
  not_high_byte_low = leb-false 128 b

pub opening_not_high : (n : ℕ) → high_byte (opening n) ≡ false
unfolding high_byte
opening_not_high n = refl

pub closing_not_high : (n : ℕ) → high_byte (closing n) ≡ false
unfolding high_byte
closing_not_high n = refl

-- it is refused, whatever the writer
module _ (w : Writer) (c : Call) (high : high_byte c ≡ true) where
  pub high_byte-refused : put_said w c ≡ refused bad_byte 0
  unfolding put_said
  high_byte-refused = rw high

  pub high_byte-changes_nothing : put_leaves w c ≡ w
  unfolding put_leaves
  high_byte-changes_nothing = rw high

pub puts_high_byte : (e : VaricodeEncoder) (c : Call) (r : Wrote) → high_byte c ≡ true → Refuses BadByte e r → Puts e c r
puts_high_byte e c r high k =
    record {
      answer = ap answer_said k.answer ∙ sym (high_byte-refused (writer e) c high);
      state = ap writer k.state ∙ sym (high_byte-changes_nothing (writer e) c high);
    }

-- the same of a byte, told by how large it is
module _ (w : Writer) (b : ℕ) (large : 128 ≤ b) where
  pub large_byte_said : put_said w (byte b) ≡ refused bad_byte 0
  large_byte_said = high_byte-refused w (byte b) (byte_high b large)

  pub large_byte_leaves : put_leaves w (byte b) ≡ w
  large_byte_leaves = high_byte-changes_nothing w (byte b) (byte_high b large)

-- ---- a call that puts n bits behind as many zeros

module _
    (e : VaricodeEncoder) (c : Call) (r : Wrote) {padding n : ℕ}
    (not_high : high_byte c ≡ false) (size : length (bits_put e.first c) ≡ padding + n) where
  pub puts_refused : (why : Refusal) → Full (writer e) padding n why → Refuses why e r → Puts e c r
  unfolding put_said put_leaves too_many
  puts_refused why f k =
      let full = lt-ltb bit_room (held (writer e) + length (bits_put e.first c)) (rw size f.over) in
      let said : answer_said r.answer ≡ refused queue_full 0 = rw (k.answer, f.refusal) refl in
      record { answer = said ∙ rw (not_high, full); state = ap writer k.state ∙ rw (not_high, full) }

  pub puts_done :
      {mid : Ring} → Spaced (writer e) padding n mid → (xs : List ℕ) → bits_put e.first c ≡ replicate padding 0 ++ xs →
      {new : Queue bit_room} → ring new ≡ put_all bit_room mid xs → Accepts new (first_after e.first c) r → Puts e c r
  unfolding put_said put_leaves too_many
  puts_done s xs split behind w =
      let enough = le-ltb bit_room (held (writer e) + length (bits_put e.first c)) (rw size s.fits) in
      let before = read_as bit_room (writer e).pending in
      let put : put_all bit_room (put_all bit_room before (replicate padding 0)) xs ≡ put_all bit_room before (bits_put e.first c) =
      rw split (sym (put_all-append bit_room before (replicate padding 0) xs)) in
      let pending : ring r.coder.pending ≡ put_all bit_room before (bits_put e.first c) =
      ap ring w.pending ∙ behind ∙ rw s.pending put in
      record { answer = ap answer_said w.answer ∙ rw (not_high, enough); state = rw (not_high, enough, pending, w.first) }

-- ---- how many bits, and how they are put

gap_zeros : (first : Bool) → replicate (length (gap first)) 0 ≡ gap first
gap_zeros true = refl
gap_zeros false = refl

pub length-opening : (first : Bool) (n : ℕ) → length (bits_put first (opening n)) ≡ 0 + n
unfolding bits_put
length-opening first n = omega (arith, length-replicate {A = ℕ} n 0)

pub length-closing : (first : Bool) (n : ℕ) → length (bits_put first (closing n)) ≡ length (gap first) + n
unfolding bits_put
length-closing first n = length-append (gap first) (replicate n 1) ∙ ap (λ (k : ℕ). length (gap first) + k) (length-replicate n 1)

pub length-byte : (first : Bool) (b : ℕ) → length (bits_put first (byte b)) ≡ length (gap first) + length_of (word_of b)
unfolding bits_put bits_of
length-byte first b =
    length-append (gap first) (bits_of (word_of b))
    ∙ ap (λ (k : ℕ). length (gap first) + k) (length_digits (length_of (word_of b)) (word_of b))

-- a gap is as many zeros as it is long, and the rest comes behind

pub opening_split : (first : Bool) (n : ℕ) → bits_put first (opening n) ≡ replicate 0 0 ++ replicate n 0
unfolding bits_put
opening_split first n = refl

pub closing_split :
    (first : Bool) (n padding : ℕ) → padding ≡ length (gap first) →
    bits_put first (closing n) ≡ replicate padding 0 ++ replicate n 1
unfolding bits_put
closing_split first n padding z = rw (z, gap_zeros first) refl

pub byte_split :
    (first : Bool) (b padding word len : ℕ) → padding ≡ length (gap first) → word ≡ word_of b → len ≡ length_of (word_of b) →
    bits_put first (byte b) ≡ replicate padding 0 ++ digits len word
unfolding bits_put bits_of
byte_split first b padding word len z f g = rw (z, f, g, gap_zeros first) refl
