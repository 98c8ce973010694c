-- The two Varicode readers: what each bit brings, and the queue of 64 characters that they go through. They differ in
-- one definition, when a zero ends a word. Definitions only.
use Rattle.std.specs.Prelude.{Bool, false, cond, ◌&&◌, ◌||◌, ltb, eqb, List, [], ◌∷◌, ◌++◌, length}
use Rattle.std.specs.Prelude.{ℕ, ◌+◌, ◌-◌, ◌*◌, ◌/◌, ◌%◌, min}
use Rattle.queue.specs.Ring.{Ring, empty, read_as, put_all, char_room}
use Rattle.queue.specs.Take.{left}
use Rattle.refusal.specs.Answer.{Said, accepted, refuse_when}
use Rattle.refusal.specs.Numbers.{bad_bit, queue_full}
use Rattle.varicode_words.specs.Word.{decode_of}

-- what a reader remembers of the word that it is in: its bits, how many, and whether the last was a zero
pub record Heard : Type 0 where
  pub shift : ℕ
  pub len : ℕ
  pub prev_zero : Bool

abbrev pub nothing_heard : Heard
nothing_heard = record { shift = 0; len = 0; prev_zero = false }

-- A zero ends the word after a remembered zero; in the reader for pauses also while nothing is heard. The empty word is
-- no letter's, so that zero brings nothing, and nothing is heard after it: it is skipped.
unfoldable pub zero_ends : (pauses : Bool) → Heard → Bool
zero_ends pauses h = h.prev_zero || (pauses && eqb h.len 0)

abbrev pub ends : (pauses : Bool) → Heard → ℕ → Bool
ends pauses h b = eqb b 0 && zero_ends pauses h

-- The word's trailing zero is dropped, and it is looked up by bits and length.
unfoldable pub letter_at : (pauses : Bool) → Heard → ℕ → List ℕ
letter_at pauses h b = cond (ends pauses h b) (decode_of (h.shift / 2) (h.len - 1)) []

-- Otherwise the bit joins a 16-bit shift and the length counts up to 11.
abbrev pub joined_to : Heard → ℕ → Heard
joined_to h b = record { shift = (2 * h.shift + b) % 65536; len = min (h.len + 1) 11; prev_zero = eqb b 0 }

-- At a word's end everything is forgotten, the zeros included.
unfoldable pub heard_after : (pauses : Bool) → Heard → ℕ → Heard
heard_after pauses h b = cond (ends pauses h b) nothing_heard (joined_to h b)

-- what several bits bring, one entry for each bit
unfoldable pub brings_from : (pauses : Bool) → Heard → List ℕ → List (List ℕ)
unfolding letter_at heard_after
brings_from pauses h [] = []
brings_from pauses h (b ∷ bs) = letter_at pauses h b ∷ brings_from pauses (heard_after pauses h b) bs

-- the characters of several bits, one after the other
abbrev pub concat : List (List ℕ) → List ℕ
concat [] = []
concat (l ∷ ls) = l ++ concat ls

unfoldable pub letters_from : (pauses : Bool) → Heard → List ℕ → List ℕ
unfolding brings_from
letters_from pauses h bits = concat (brings_from pauses h bits)

-- ---- the queue

-- a reader is for pauses or not, from when it is made
pub record Reader : Type 0 where
  pub pauses : Bool
  pub heard : Heard
  pub chars : Ring

unfoldable pub fresh_reader : (pauses : Bool) → Reader
fresh_reader pauses = record { pauses = pauses; heard = nothing_heard; chars = empty char_room }

-- a record may be forged: its length is read modulo one more than its largest value
abbrev pub read_heard : Heard → Heard
read_heard h = record { shift = h.shift; len = h.len % 12; prev_zero = h.prev_zero }

-- the character that a bit brings, if it brings one
unfoldable pub brought : Reader → ℕ → List ℕ
unfolding letter_at
brought r b = letter_at r.pauses (read_heard r.heard) b

-- the character doesn't fit
unfoldable pub no_room : List ℕ → Ring → Bool
no_room letter q = ltb char_room ((read_as char_room q).count + length letter)

-- refusal 8 exactly when the bit is above 1, and then 9 exactly when the character doesn't fit
unfoldable pub bit_said : Reader → ℕ → Said Unit
unfolding brought no_room
bit_said r b = refuse_when (ltb 1 b) bad_bit (refuse_when (no_room (brought r b) r.chars) queue_full (accepted tt))

-- the queue with the character behind the others; as it came where there is none
abbrev pub with_letter : List ℕ → Ring → Ring
with_letter [] q = q
with_letter (c ∷ cs) q = put_all char_room (read_as char_room q) (c ∷ cs)

-- the reader after a bit; as it came where the call is refused
unfoldable pub bit_leaves : Reader → ℕ → Reader
unfolding brought no_room heard_after
bit_leaves r b =
    cond (ltb 1 b) r (cond (no_room (brought r b) r.chars) r
    (record {
      pauses = r.pauses;
      heard = heard_after r.pauses (read_heard r.heard) b;
      chars = with_letter (brought r b) r.chars;
    }))

-- the reader after its next character is taken out
abbrev pub char_leaves : Reader → Reader
char_leaves r = record { pauses = r.pauses; heard = r.heard; chars = left char_room r.chars }
