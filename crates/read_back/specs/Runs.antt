-- Runs: calls one after the other from a fresh writer or reader, every one accepted, in any order and with takings-out
-- anywhere between. Read-back, of which they are the premise. Definitions only.
use Rattle.std.specs.Prelude.{Bool, true, false, List, [], ◌∷◌, ◌++◌, map, ◌≡◌, ℕ, ◌+◌, ◌*◌, ◌≤◌, ◌<◌, length}
use Rattle.queue.specs.Ring.{inside, bit_room, char_room}
use Rattle.queue.specs.Take.{taken}
use Rattle.refusal.specs.Answer.{accepted}
use Rattle.varicode_reader.specs.Reader.{Reader, fresh_reader, bit_said, bit_leaves, char_leaves}
use Rattle.varicode_writer.specs.Writer.{Writer, fresh_writer, high_byte, put_said, put_leaves, next_leaves}
use Rattle.varicode_writer.specs.Writer.{Call, opening, byte, closing, gap, bits_put}

-- the writer that the run ends in, the calls that put bits, and the bits that were taken out, each in order
pub data WriterRun : Writer → List Call → List ℕ → Type 0 where
  start : WriterRun fresh_writer [] []
  puts :
      {w : Writer} {calls : List Call} {out : List ℕ} → WriterRun w calls out →
      (c : Call) → put_said w c ≡ accepted tt →
      WriterRun (put_leaves w c) (calls ++ c ∷ []) out
  takes :
      {w : Writer} {calls : List Call} {out : List ℕ} → WriterRun w calls out →
      (v : ℕ) → taken bit_room w.pending ≡ v ∷ [] →
      WriterRun (next_leaves w) calls (out ++ v ∷ [])
  finds_none :
      {w : Writer} {calls : List Call} {out : List ℕ} → WriterRun w calls out → taken bit_room w.pending ≡ [] →
      WriterRun (next_leaves w) calls out

-- the reader that the run ends in, the bits that were pushed, and the characters that were taken out, each in order
pub data ReaderRun (pauses : Bool) : Reader → List ℕ → List ℕ → Type 0 where
  start : ReaderRun pauses (fresh_reader pauses) [] []
  feeds :
      {r : Reader} {bits out : List ℕ} → ReaderRun pauses r bits out → (b : ℕ) → bit_said r b ≡ accepted tt →
      ReaderRun pauses (bit_leaves r b) (bits ++ b ∷ []) out
  takes :
      {r : Reader} {bits out : List ℕ} → ReaderRun pauses r bits out → (v : ℕ) → taken char_room r.chars ≡ v ∷ [] →
      ReaderRun pauses (char_leaves r) bits (out ++ v ∷ [])
  finds_none :
      {r : Reader} {bits out : List ℕ} → ReaderRun pauses r bits out → taken char_room r.chars ≡ [] →
      ReaderRun pauses (char_leaves r) bits out

-- bytes below 128
pub data Text : List ℕ → Type 0 where
  none : Text []
  more : {b : ℕ} {bs : List ℕ} → b < 128 → Text bs → Text (b ∷ bs)

-- the bytes of a text, one call each, and one closing
abbrev pub written : List ℕ → ℕ → List Call
written text n = map byte text ++ closing n ∷ []

-- Calls through a fresh writer, every one accepted and every bit taken out, and those bits through a fresh reader, for
-- pauses or not, every one accepted.
pub record Relayed (pauses : Bool) (calls : List Call) : Type 0 where
  pub writer : Writer
  pub reader : Reader
  pub sent : List ℕ
  pub got : List ℕ
  pub wrote : WriterRun writer calls sent
  pub all : inside bit_room writer.pending ≡ []
  pub read : ReaderRun pauses reader sent got

-- what is taken out of the reader, and what is still inside
abbrev pub received : {pauses : Bool} {calls : List Call} → Relayed pauses calls → List ℕ
received r = r.got ++ inside char_room r.reader.chars

-- Read-back: of one even opening, bytes and one closing, what is received is the text, letter for letter. An accepted
-- byte is below 128, so that nothing need be asked of the text.
abbrev pub ReadsBack : Type 0
ReadsBack = (text : List ℕ) (k n : ℕ) (r : Relayed false (opening (2 * k) ∷ written text n)) → received r ≡ text

-- The reader for pauses takes an opening of any length.
abbrev pub ReadsBackAnyOpening : Type 0
ReadsBackAnyOpening = (text : List ℕ) (k n : ℕ) (r : Relayed true (opening k ∷ written text n)) → received r ≡ text

-- With no opening at all, either reader.
abbrev pub ReadsBackUnopened : Type 0
ReadsBackUnopened = (text : List ℕ) (n : ℕ) (pauses : Bool) (r : Relayed pauses (written text n)) → received r ≡ text

-- ---- that calls can be relayed

-- A call that a writer with an empty queue accepts: it gives no byte of 128 or above, and its bits all fit, whether or
-- not a byte was written before it.
pub record Fits (c : Call) : Type 0 where
  pub low : high_byte c ≡ false
  pub few : (first : Bool) → length (bits_put first c) ≤ bit_room

abbrev pub AllFit : List Call → Type 0
AllFit [] = Unit
AllFit (c ∷ cs) = Fits c × AllFit cs

-- What fits, and nothing else does: openings no longer than the queue, bytes below 128, closings that leave room for a
-- gap.
abbrev pub OpeningsFit : Type 0
OpeningsFit = (n : ℕ) → (n ≤ bit_room → Fits (opening n)) × (Fits (opening n) → n ≤ bit_room)

abbrev pub BytesFit : Type 0
BytesFit = (b : ℕ) → (b < 128 → Fits (byte b)) × (Fits (byte b) → b < 128)

abbrev pub ClosingsFit : Type 0
ClosingsFit =
    (n : ℕ) →
    (length (gap false) + n ≤ bit_room → Fits (closing n)) × (Fits (closing n) → length (gap false) + n ≤ bit_room)
