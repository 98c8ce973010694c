-- The reader hands out the characters that its bits bring, in order, whatever accepted calls come between. Assumes nothing.
use mathlib.Core.Bool.{Bool, true, false, cond}
use mathlib.Core.List.{List, [], ◌∷◌, ◌++◌, append_assoc, append-nil}
use mathlib.Core.Path.{◌≡◌, refl, sym, ap, ap₂, subst, ◌∙◌}
use Prim.Native.Nat.{ℕ, ◌+◌, ◌≤◌}
use native.Mathlib.Nat.{mod-eq_of_lt, min-le_right}
use native.Mathlib.Omega.{arith}
use borrow.Author.Tests.{ltb-false}
use lib.Dec.{ltb, lit<}
use lib.ListN.{length}
use Rattle.queue.specs.Ring.{Ring, InRange, read_as, put_all, inside, char_room}
use Rattle.queue.specs.Take.{taken, left}
use Rattle.queue.proofs.Rings.{empty_in_range, inside_empty, read_in_range, put_all-in_range, inside_put_all}
use Rattle.queue.proofs.Handed.{handed, kept, behind}
use Rattle.refusal.specs.Answer.{accepted, refuse_when}
use Rattle.refusal.specs.Numbers.{bad_bit, queue_full}
use Rattle.refusal.proofs.Told.{accepted_past, accepted_passed}
use Rattle.varicode_reader.specs.Reader.{Heard, nothing_heard, ends, letter_at, heard_after, joined_to, read_heard}
use Rattle.varicode_reader.specs.Reader.{brings_from, letters_from}
use Rattle.varicode_reader.specs.Reader.{Reader, fresh_reader, brought, no_room, with_letter, bit_said, bit_leaves, char_leaves}
use Rattle.read_back.specs.Runs.{ReaderRun, start, feeds, takes, finds_none}

-- what is heard after several bits
unfoldable pub heard_all : Bool → Heard → List ℕ → Heard
heard_all p h [] = h
heard_all p h (b ∷ bs) = heard_all p (heard_after p h b) bs

module _ (p : Bool) where
  heard_snoc : (h : Heard) (bits : List ℕ) (b : ℕ) → heard_all p h (bits ++ b ∷ []) ≡ heard_after p (heard_all p h bits) b
  unfolding heard_all
  heard_snoc h [] b = refl
  heard_snoc h (a ∷ bits) b = heard_snoc (heard_after p h a) bits b

  letters_snoc :
      (h : Heard) (bits : List ℕ) (b : ℕ) → letters_from p h (bits ++ b ∷ []) ≡ letters_from p h bits ++ letter_at p (heard_all p h bits) b
  unfolding letters_from brings_from heard_all
  letters_snoc h [] b = append-nil (letter_at p h b)
  letters_snoc h (a ∷ bits) b =
      ap (λ (l : List ℕ). letter_at p h a ++ l) (letters_snoc (heard_after p h a) bits b)
      ∙ sym
      (append_assoc (letter_at p h a) (letters_from p (heard_after p h a) bits) (letter_at p (heard_all p (heard_after p h a) bits) b))

  -- the count of a word's bits stops at 11
  after_short : (h : Heard) (b : ℕ) → (heard_after p h b).len ≤ 11
  unfolding heard_after
  after_short h b = go (ends p h b)
    where
      go : (e : Bool) → (cond e nothing_heard (joined_to h b)).len ≤ 11
      go true = omega arith
      go false = min-le_right (h.len + 1) 11

-- so that the length of a reached reader is read as it stands
read_short : (h : Heard) → h.len ≤ 11 → read_heard h ≡ h
read_short h s = ap (λ (n : ℕ). record { shift = h.shift; len = n; prev_zero = h.prev_zero }) (mod-eq_of_lt (omega arith))

-- a reader of these parts
abbrev made : Bool → Heard → Ring → Reader
made p h q = record { pauses = p; heard = h; chars = q }

pub record ReaderHolds (p : Bool) (r : Reader) (bits out : List ℕ) : Type 0 where
  pub pauses : r.pauses ≡ p
  pub in_range : InRange char_room r.chars
  pub heard : r.heard ≡ heard_all p nothing_heard bits
  pub short : r.heard.len ≤ 11
  pub order : out ++ inside char_room r.chars ≡ letters_from p nothing_heard bits

-- a character that has room goes behind the others
record Gained (letter : List ℕ) (q : Ring) : Type 0 where
  pub in_range : InRange char_room (with_letter letter q)
  pub order : inside char_room (with_letter letter q) ≡ inside char_room q ++ letter

with_letter_lem : (letter : List ℕ) (q : Ring) → InRange char_room q → with_letter letter q ≡ put_all char_room q letter
unfolding put_all
with_letter_lem [] q w = refl
with_letter_lem (c ∷ cs) q w = ap (λ (p : Ring). put_all char_room p (c ∷ cs)) (read_in_range w)

gained : (letter : List ℕ) (q : Ring) → InRange char_room q → no_room letter q ≡ false → Gained letter q
unfolding no_room
gained letter q w free =
    let same = with_letter_lem letter q w in
    let held : (read_as char_room q).count ≡ q.count = ap (λ (p : Ring). p.count) (read_in_range w) in
    let room : q.count + length letter ≤ char_room =
    rw held at (ltb-false char_room ((read_as char_room q).count + length letter) free) in
    record { in_range = rw same (put_all-in_range w letter room); order = rw same (inside_put_all w letter room) }

module _ (p : Bool) (r : Reader) (bits out : List ℕ) (h : ReaderHolds p r bits out) where
  reader_feeds : (b : ℕ) → bit_said r b ≡ accepted tt → ReaderHolds p (bit_leaves r b) (bits ++ b ∷ []) out
  unfolding bit_said bit_leaves brought
  reader_feeds b said =
      let l = letter_at r.pauses (read_heard r.heard) b in
      let last = refuse_when (no_room l r.chars) queue_full (accepted tt) in
      let good = accepted_passed (ltb 1 b) bad_bit last tt said in
      let free = accepted_passed (no_room l r.chars) queue_full (accepted tt) tt (accepted_past (ltb 1 b) bad_bit last tt said) in
      let now : read_heard r.heard ≡ heard_all p nothing_heard bits = read_short r.heard h.short ∙ h.heard in
      let new = made r.pauses (heard_after r.pauses (read_heard r.heard) b) (with_letter l r.chars) in
      let same : bit_leaves r b ≡ new =
      ap₂ (λ (s t : Bool). cond s r (cond t r new)) good free in
      let brings : l ≡ letter_at p (heard_all p nothing_heard bits) b =
      ap₂ (λ (q : Bool) (g : Heard). letter_at q g b) h.pauses now in
      let more = gained l r.chars h.in_range free in
      rw same
      (record {
        pauses = h.pauses;
        in_range = more.in_range;
        heard = ap₂ (λ (q : Bool) (g : Heard). heard_after q g b) h.pauses now ∙ sym (heard_snoc p nothing_heard bits b);
        short = after_short r.pauses (read_heard r.heard) b;
        order =
            ap (λ (k : List ℕ). out ++ k) more.order
            ∙ sym (append_assoc out (inside char_room r.chars) l)
            ∙ ap₂ (λ (k m : List ℕ). k ++ m) h.order brings
            ∙ sym (letters_snoc p nothing_heard bits b);
      })

  reader_takes : (v : ℕ) → taken char_room r.chars ≡ v ∷ [] → ReaderHolds p (char_leaves r) bits (out ++ v ∷ [])
  reader_takes v e =
      let given = handed char_room r.chars h.in_range v e in
      record {
        pauses = h.pauses;
        in_range = given.left_in_range;
        heard = h.heard;
        short = h.short;
        order = behind out v (inside char_room (left char_room r.chars)) ∙ ap (λ (l : List ℕ). out ++ l) (sym given.order) ∙ h.order;
      }

  reader_finds_none : taken char_room r.chars ≡ [] → ReaderHolds p (char_leaves r) bits out
  reader_finds_none e =
      subst (λ (q : Ring). ReaderHolds p (made r.pauses r.heard q) bits out) (sym (kept char_room r.chars h.in_range e)) h

pub reader_holds : {p : Bool} {r : Reader} {bits out : List ℕ} → ReaderRun p r bits out → ReaderHolds p r bits out
unfolding fresh_reader letters_from brings_from heard_all
reader_holds start =
    record { pauses = refl; in_range = empty_in_range (lit< tt); heard = refl; short = omega arith; order = inside_empty char_room }
reader_holds (feeds run b said) = reader_feeds _ _ _ _ (reader_holds run) b said
reader_holds (takes run v e) = reader_takes _ _ _ _ (reader_holds run) v e
reader_holds (finds_none run e) = reader_finds_none _ _ _ _ (reader_holds run) e

-- what was taken out, and what is inside, are the characters of the bits, in order
pub reader_hands_out :
    {p : Bool} {r : Reader} {bits out : List ℕ} → ReaderRun p r bits out →
    out ++ inside char_room r.chars ≡ letters_from p nothing_heard bits
reader_hands_out run = (reader_holds run).order
