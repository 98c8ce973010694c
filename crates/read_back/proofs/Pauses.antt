-- The two readers: letters keyed with pauses of any length come out of the one for pauses, and on text with gaps of two zeros and no
-- opening both bring the same at each bit. Assumes nothing.
use mathlib.Core.Bool.{Bool, true, false}
use mathlib.Core.List.{List, [], ◌∷◌, ◌++◌, append_assoc}
use mathlib.Core.Path.{◌≡◌, refl, sym, ap, subst, ◌∙◌}
use Prim.Native.Nat.{ℕ, zero, suc, ◌-◌, ◌/◌, ◌<◌}
use native.Mathlib.Omega.{arith}
use lib.ListN.{replicate}
use Rattle.queue.specs.Ring.{inside, char_room}
use Rattle.varicode_reader.specs.Reader.{Reader, Heard, nothing_heard, letter_at, joined_to, heard_after, brings_from, concat, letters_from}
use Rattle.varicode_reader.proofs.Ends.{ends_after_zero, goes_on_in_a_word}
use Rattle.varicode_words.specs.Word.{word_of, bits_of, decode_of}
use Rattle.varicode_words.proofs.Facts.{any_word_rule}
use Rattle.varicode_words.proofs.Sound.{Sound, one, after_one, after_gap}
use Rattle.varicode_writer.specs.Writer.{bits_put, first_after, stream_from}
use Rattle.read_back.specs.Runs.{ReaderRun, Text, more, written}
use Rattle.read_back.specs.Claims.{Key, zeros_behind, letters_keyed, keyed, ReadsPauses, BringTheSame}
use Rattle.read_back.proofs.Back.{after_byte, byte_read}
use Rattle.read_back.proofs.ReaderRuns.{reader_hands_out}
use Rattle.read_back.proofs.Words.{zeros_skipped, ones-read}

-- ---- pauses of any length

keys_read :
    (keys : List Key) (n : ℕ) → Text (letters_keyed keys) →
    letters_from true nothing_heard (keyed keys ++ replicate n 1) ≡ letters_keyed keys
unfolding keyed
keys_read [] n t = ones-read true n nothing_heard
keys_read (k ∷ ks) n (more low t) =
    let word = bits_of (word_of k.letter) in
    let rest = keyed ks ++ replicate n 1 in
    let zeros : zeros_behind k ≡ suc (suc k.longer) = omega arith in
    let parted : keyed (k ∷ ks) ++ replicate n 1 ≡ word ++ (0 ∷ 0 ∷ (replicate k.longer 0 ++ rest)) =
    append_assoc word (replicate (zeros_behind k) 0 ++ keyed ks) (replicate n 1)
    ∙ ap (λ (l : List ℕ). word ++ l)
    (append_assoc (replicate (zeros_behind k) 0) (keyed ks) (replicate n 1) ∙ ap (λ (m : ℕ). replicate m 0 ++ rest) zeros) in
    ap (letters_from true nothing_heard) parted
    ∙ byte_read true k.letter low (replicate k.longer 0 ++ rest)
    ∙ ap (λ (l : List ℕ). k.letter ∷ l) (zeros_skipped k.longer rest ∙ keys_read ks n t)

pub pauses_read : ReadsPauses
pauses_read keys k n t r out run = reader_hands_out run ∙ zeros_skipped k (keyed keys ++ replicate n 1) ∙ keys_read keys n t

-- ---- both readers

-- Bits in which no zero comes where nothing is heard: the first is a one, and so is the one behind each two zeros. `some` says whether
-- something is heard before them, and `z` whether its last bit is a zero.
pub data Paced : (some z : Bool) → List ℕ → Type 0 where
  over : {some z : Bool} → Paced some z []
  one_bit : {some z : Bool} {bs : List ℕ} → Paced true false bs → Paced some z (1 ∷ bs)
  zero_bit : {bs : List ℕ} → Paced true true bs → Paced true false (0 ∷ bs)
  gap_bit : {bs : List ℕ} → Paced false false bs → Paced true true (0 ∷ bs)

-- that something is heard, where `some` says so
abbrev pub SomeHeard : Bool → Heard → Type 0
SomeHeard true h = 0 < h.len
SomeHeard false h = Unit

abbrev brings_then : List ℕ → List (List ℕ) → List (List ℕ)
brings_then letter rest = letter ∷ rest

pub paced_brings_the_same :
    {some z : Bool} {bits : List ℕ} → Paced some z bits → (h : Heard) → h.prev_zero ≡ z → SomeHeard some h →
    brings_from false h bits ≡ brings_from true h bits
unfolding brings_from letter_at heard_after
paced_brings_the_same over h e heard = refl
paced_brings_the_same (one_bit p) h e heard =
    ap (brings_then []) (paced_brings_the_same p (joined_to h 1) refl (omega arith))
paced_brings_the_same (zero_bit p) h e heard =
    rw (goes_on_in_a_word false h e heard, goes_on_in_a_word true h e heard)
    (ap (brings_then []) (paced_brings_the_same p (joined_to h 0) refl (omega arith)))
paced_brings_the_same (gap_bit p) h e heard =
    rw (ends_after_zero false h e, ends_after_zero true h e)
    (ap (brings_then (decode_of (h.shift / 2) (h.len - 1))) (paced_brings_the_same p nothing_heard refl tt))

-- a sound word, and what follows it
word_paced : {some z : Bool} {word tail : List ℕ} → Sound word → Paced true false tail → Paced some z (word ++ tail)
word_paced one p = one_bit p
word_paced (after_one s) p = one_bit (word_paced s p)
word_paced (after_gap s) p = one_bit (zero_bit (word_paced s p))

ones-paced : {some z : Bool} (n : ℕ) → Paced some z (replicate n 1 ++ [])
ones-paced zero = over
ones-paced (suc n) = one_bit (ones-paced n)

-- what a writer puts for any bytes and one closing, with no opening
text_paced : (text : List ℕ) (n : ℕ) → Paced false false (stream_from true (written text n))
unfolding stream_from bits_put first_after
text_paced [] n = ones-paced n
text_paced (b ∷ text) n =
    word_paced (any_word_rule b) (subst (Paced true false) (sym (after_byte text n)) (zero_bit (gap_bit (text_paced text n))))

pub bring_the_same : BringTheSame
bring_the_same text n = paced_brings_the_same (text_paced text n) nothing_heard refl tt

-- So at every moment: of the bits that came so far both readers have brought the same.
front_paced : {some z : Bool} (bits rest : List ℕ) → Paced some z (bits ++ rest) → Paced some z bits
front_paced [] rest p = over
front_paced (b ∷ bits) rest (one_bit p) = one_bit (front_paced bits rest p)
front_paced (b ∷ bits) rest (zero_bit p) = zero_bit (front_paced bits rest p)
front_paced (b ∷ bits) rest (gap_bit p) = gap_bit (front_paced bits rest p)

pub same_so_far :
    (text : List ℕ) (n : ℕ) (bits rest : List ℕ) → bits ++ rest ≡ stream_from true (written text n) →
    {r r' : Reader} {out out' : List ℕ} → ReaderRun false r bits out → ReaderRun true r' bits out' →
    out ++ inside char_room r.chars ≡ out' ++ inside char_room r'.chars
unfolding letters_from
same_so_far text n bits rest e run run' =
    let paced = front_paced bits rest (subst (Paced false false) (sym e) (text_paced text n)) in
    reader_hands_out run ∙ ap concat (paced_brings_the_same paced nothing_heard refl tt) ∙ sym (reader_hands_out run')
