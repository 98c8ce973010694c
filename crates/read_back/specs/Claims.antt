-- What else is claimed of the two readers: letters keyed with pauses of any length come out of the one for pauses, and
-- both bring the same where there are none; a character takes three bits; what is refused waits. Definitions only.
use Rattle.std.specs.Prelude.{Bool, true, false, List, [], ◌∷◌, ◌++◌, map, ◌≡◌, ℕ, ◌+◌, ◌*◌, ◌≤◌, length, replicate}
use Rattle.queue.specs.Ring.{inside, char_room}
use Rattle.refusal.specs.Answer.{accepted, refused}
use Rattle.refusal.specs.Numbers.{queue_full}
use Rattle.varicode_reader.specs.Reader.{nothing_heard, brings_from, letters_from}
use Rattle.varicode_reader.specs.Reader.{Reader, brought, bit_said, bit_leaves, char_leaves}
use Rattle.varicode_words.specs.Word.{word_of, bits_of}
use Rattle.varicode_writer.specs.Writer.{stream_from}
use Rattle.read_back.specs.Runs.{ReaderRun, Text, written}

-- a letter that is keyed: its byte, and by how many zeros the pause behind its word is longer than two
pub record Key : Type 0 where
  pub letter : ℕ
  pub longer : ℕ

-- the zeros of that pause
abbrev pub zeros_behind : Key → ℕ
zeros_behind k = 2 + k.longer

abbrev pub letters_keyed : List Key → List ℕ
letters_keyed keys = map (λ (k : Key). k.letter) keys

-- the bits that they make
unfoldable pub keyed : List Key → List ℕ
keyed [] = []
keyed (k ∷ ks) = bits_of (word_of k.letter) ++ (replicate (zeros_behind k) 0 ++ keyed ks)

-- Pauses of any length: of any opening, letters with two or more zeros behind each, and any closing, what comes out of
-- the reader for pauses, and what is still inside, are the letters.
abbrev pub ReadsPauses : Type 0
ReadsPauses =
    (keys : List Key) (k n : ℕ) → Text (letters_keyed keys) → (r : Reader) (out : List ℕ) →
    ReaderRun true r (replicate k 0 ++ (keyed keys ++ replicate n 1)) out →
    out ++ inside char_room r.chars ≡ letters_keyed keys

-- On a text with gaps of two zeros and no opening both readers bring the same characters at the same bits.
abbrev pub BringTheSame : Type 0
BringTheSame =
    (text : List ℕ) (n : ℕ) →
    let bits = stream_from true (written text n) in
    brings_from false nothing_heard bits ≡ brings_from true nothing_heard bits

-- Either reader brings at most a third as many characters as there are bits.
abbrev pub BringsAThird : Type 0
BringsAThird = (pauses : Bool) (bits : List ℕ) → 3 * length (letters_from pauses nothing_heard bits) ≤ length bits

-- A bit that is refused for want of room is not consumed: the reader is as it was, and once a character is taken out it
-- is accepted and brings what it would have brought.
pub record Waits (r : Reader) (b : ℕ) : Type 0 where
  pub as_it_was : bit_leaves r b ≡ r
  pub accepted_then : bit_said (char_leaves r) b ≡ accepted tt
  pub brought_then : brought (char_leaves r) b ≡ brought r b

abbrev pub RefusedBitsWait : Type 0
RefusedBitsWait = (r : Reader) (b : ℕ) → bit_said r b ≡ refused queue_full 0 → Waits r b
