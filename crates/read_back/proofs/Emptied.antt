-- A reader from which everything was taken out refuses no bit, so that bits can all be pushed, one after the other. Assumes nothing.
use mathlib.Core.Bool.{Bool, false}
use mathlib.Core.List.{List, [], ◌∷◌, ◌++◌, append_assoc, append-nil}
use mathlib.Core.Path.{◌≡◌, refl, sym, subst}
use Prim.Native.Nat.{ℕ, zero, suc, ◌+◌, ◌-◌, ◌/◌, ◌≤◌}
use native.Mathlib.Omega.{arith}
use borrow.Author.Tests.{le-ltb}
use lib.ListN.{length}
use Rattle.binary.proofs.Values.{Bits, more}
use Rattle.queue.specs.Ring.{Ring, read_as, front, char_room}
use Rattle.queue.proofs.Handed.{front_taken, one_fewer}
use Rattle.refusal.specs.Answer.{accepted}
use Rattle.varicode_reader.specs.Reader.{Reader, Heard, ends, letter_at, read_heard, brought, no_room, bit_said}
use Rattle.varicode_words.proofs.Search.{either_few, few_decoded}
use Rattle.read_back.specs.Runs.{ReaderRun, start, feeds, takes}
use Rattle.read_back.proofs.ReaderRuns.{reader_holds}

-- a bit brings one character at most
pub few_letters : (p : Bool) (h : Heard) (b : ℕ) → length (letter_at p h b) ≤ 1
unfolding letter_at
few_letters p h b = either_few _ [] (few_decoded (h.shift / 2) (h.len - 1)) (omega arith) (ends p h b)

one_fits : (letter : List ℕ) (q : Ring) → length letter ≤ 1 → q.count ≡ 0 → no_room letter q ≡ false
unfolding no_room
one_fits letter q few none = le-ltb char_room ((read_as char_room q).count + length letter) (omega (arith, none))

pub emptied_refuses_none : (r : Reader) (b : ℕ) → r.chars.count ≡ 0 → b ≤ 1 → bit_said r b ≡ accepted tt
unfolding bit_said brought
emptied_refuses_none r b none bit =
    let good = le-ltb 1 b bit in
    let heard = read_heard r.heard in
    let free = one_fits (letter_at r.pauses heard b) r.chars (few_letters r.pauses heard b) none in
    rw (good, free)

-- a run of these bits after which nothing is left
pub record Emptied (p : Bool) (bits : List ℕ) : Type 0 where
  pub reader : Reader
  pub got : List ℕ
  pub read : ReaderRun p reader bits got
  pub none : reader.chars.count ≡ 0

emptied_of : (n : ℕ) {p : Bool} {r : Reader} {bits out : List ℕ} → ReaderRun p r bits out → r.chars.count ≡ n → Emptied p bits
emptied_of zero {p} {r} {bits} {out} run e = record { reader = r; got = out; read = run; none = e }
emptied_of (suc n) {p} {r} {bits} {out} run e =
    let within = (reader_holds run).in_range in
    emptied_of n (takes run (front r.chars) (front_taken within e)) (one_fewer within e)

-- after each run everything can be taken out
pub run_emptied : {p : Bool} {r : Reader} {bits out : List ℕ} → ReaderRun p r bits out → Emptied p bits
run_emptied run = emptied_of _ run refl

all_more : {p : Bool} (before bits : List ℕ) → Emptied p before → Bits bits → Emptied p (before ++ bits)
all_more {p} before [] e are = subst (Emptied p) (sym (append-nil before)) e
all_more {p} before (b ∷ bits) e (more bit are) =
    subst (Emptied p) (append_assoc before (b ∷ []) bits)
    (all_more (before ++ b ∷ []) bits (run_emptied (feeds e.read b (emptied_refuses_none e.reader b e.none (omega arith)))) are)

pub bits_emptied : (p : Bool) (bits : List ℕ) → Bits bits → Emptied p bits
bits_emptied p bits are = all_more [] bits (run_emptied start) are
