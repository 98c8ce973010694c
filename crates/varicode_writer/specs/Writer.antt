-- The Varicode writer: which bits each call puts, and the queue of 256 bits that they go through. Definitions only.
use Rattle.std.specs.Prelude.{Bool, true, false, cond, List, [], ◌∷◌, ◌++◌, ℕ, ◌+◌, ltb, leb, length, replicate}
use Rattle.queue.specs.Ring.{Ring, empty, read_as, put_all, bit_room}
use Rattle.queue.specs.Take.{left}
use Rattle.refusal.specs.Answer.{Said, accepted, refuse_when}
use Rattle.refusal.specs.Numbers.{queue_full, bad_byte}
use Rattle.varicode_words.specs.Word.{word_of, bits_of}

-- the calls that put bits
pub data Call : Type 0 where
  opening : (n : ℕ) → Call
  byte : (b : ℕ) → Call
  closing : (n : ℕ) → Call

-- 00 comes only when an earlier byte was written since the start or the last opening
abbrev pub gap : Bool → List ℕ
gap true = []
gap false = 0 ∷ 0 ∷ []

-- what a call puts, where `first` says that no byte was written since the start or the last opening
unfoldable pub bits_put : Bool → Call → List ℕ
bits_put first (opening n) = replicate n 0
bits_put first (byte b) = gap first ++ bits_of (word_of b)
bits_put first (closing n) = gap first ++ replicate n 1

-- closings don't alter whether a byte was written
unfoldable pub first_after : Bool → Call → Bool
first_after first (opening n) = true
first_after first (byte b) = false
first_after first (closing n) = first

-- the bits of several calls, one after the other
unfoldable pub stream_from : Bool → List Call → List ℕ
unfolding bits_put first_after
stream_from first [] = []
stream_from first (c ∷ cs) = bits_put first c ++ stream_from (first_after first c) cs

-- ---- the queue

pub record Writer : Type 0 where
  pub pending : Ring
  pub first : Bool

unfoldable pub fresh_writer : Writer
fresh_writer = record { pending = empty bit_room; first = true }

-- the call's bits don't all fit
unfoldable pub too_many : Writer → Call → Bool
unfolding bits_put
too_many w c = ltb bit_room ((read_as bit_room w.pending).count + length (bits_put w.first c))

-- a byte of 128 or above, which has no word of its own
unfoldable pub high_byte : Call → Bool
high_byte (opening n) = false
high_byte (byte b) = leb 128 b
high_byte (closing n) = false

-- refusal 11 exactly when the call gives such a byte, and then 9 exactly when its bits don't all fit
unfoldable pub put_said : Writer → Call → Said Unit
unfolding high_byte too_many
put_said w c = refuse_when (high_byte c) bad_byte (refuse_when (too_many w c) queue_full (accepted tt))

-- the writer after a call: with the bits behind the others; as it came where the call is refused
unfoldable pub put_leaves : Writer → Call → Writer
unfolding high_byte too_many bits_put first_after
put_leaves w c =
    cond (high_byte c) w (cond (too_many w c) w
    (record {
      pending = put_all bit_room (read_as bit_room w.pending) (bits_put w.first c);
      first = first_after w.first c;
    }))

-- the writer after its next bit is taken out
abbrev pub next_leaves : Writer → Writer
next_leaves w = record { pending = left bit_room w.pending; first = w.first }
