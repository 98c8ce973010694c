-- A bit that is refused for want of room waits: with a character taken out, it is accepted and brings the same. Assumes nothing.
use mathlib.Core.Bool.{Bool, true, false}
use mathlib.Core.List.{List}
use mathlib.Core.Path.{◌≡◌, refl, ap}
use Prim.Native.Nat.{ℕ, ◌+◌, ◌≤◌}
use native.Mathlib.Omega.{arith}
use borrow.Author.Tests.{le-ltb, ltb-true}
use lib.Dec.{ltb}
use lib.ListN.{length}
use Rattle.queue.specs.Ring.{Ring, read_as, char_room}
use Rattle.queue.specs.Take.{left}
use Rattle.queue.proofs.Takes.{left_rest}
use Rattle.refusal.specs.Answer.{Said, accepted, refused, refuse_when}
use Rattle.refusal.specs.Numbers.{bad_bit, queue_full}
use Rattle.varicode_reader.specs.Reader.{letter_at, read_heard, brought, no_room, bit_said, bit_leaves}
use Rattle.read_back.specs.Claims.{RefusedBitsWait}
use Rattle.read_back.proofs.Emptied.{few_letters}

-- which of the two tests refused it
refused_means_full :
    (bad full : Bool) → ◌≡◌ {A = Said Unit} (refuse_when bad bad_bit (refuse_when full queue_full (accepted tt))) (refused queue_full 0) →
    (bad ≡ false) × (full ≡ true)
refused_means_full true full e = absurd (let z : ◌≡◌ {A = ℕ} bad_bit queue_full = cc in omega arith)
refused_means_full false true e = (refl, refl)
refused_means_full false false e = absurd (let z : ◌≡◌ {A = ℕ} 0 1 = cc in omega arith)

-- one character fewer makes room for one
room_then : (letter : List ℕ) (q : Ring) → length letter ≤ 1 → no_room letter q ≡ true → no_room letter (left char_room q) ≡ false
unfolding no_room
room_then letter q few full =
    let over = ltb-true char_room ((read_as char_room q).count + length letter) full in
    let fewer = ap (λ (r : Ring). r.count) (left_rest char_room (read_as char_room q) q refl (λ none. omega arith)) in
    le-ltb char_room ((read_as char_room (left char_room q)).count + length letter) (omega arith)

pub refused_bits_wait : RefusedBitsWait
unfolding bit_said bit_leaves brought
refused_bits_wait r b said =
    let letter = letter_at r.pauses (read_heard r.heard) b in
    let (good, full) = refused_means_full (ltb 1 b) (no_room letter r.chars) said in
    let free = room_then letter r.chars (few_letters r.pauses (read_heard r.heard) b) full in
    record { as_it_was = rw (good, full); accepted_then = rw (good, free); brought_then = refl }
