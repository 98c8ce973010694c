-- What a zero that ends the word brings, as tactics are to apply it. Assumes nothing.
use mathlib.Core.Bool.{true, cond}
use mathlib.Core.List.{List, [], ◌∷◌}
use mathlib.Core.Path.{◌≡◌, refl}
use Prim.Native.Nat.{ℕ, ◌+◌, ◌-◌, ◌/◌, ◌%◌}
use lib.Dec.{ltb}
use lib.ListN.{length}
use Rattle.queue.specs.Ring.{Ring, put_one, put_all, char_room}
use Rattle.refusal.specs.Answer.{accepted, refuse_when}
use Rattle.refusal.specs.Numbers.{queue_full}
use Rattle.varicode_words.specs.Word.{decode_of}
use Rattle.varicode_reader.specs.Reader.{Reader, nothing_heard, zero_ends, read_heard, with_letter, bit_said, bit_leaves}

-- the letter that is looked up
abbrev letter_of : Reader → List ℕ
letter_of r = decode_of (r.heard.shift / 2) (r.heard.len % 12 - 1)

module _ (r : Reader) (ending : zero_ends r.pauses (read_heard r.heard) ≡ true) where
  pub end_said :
      bit_said r 0
      ≡ refuse_when (ltb char_room (r.chars.count % (char_room + 1) + length (letter_of r))) queue_full (accepted tt)
  unfolding bit_said
  end_said = rw ending

  pub end_leaves :
      bit_leaves r 0
      ≡ cond (ltb char_room (r.chars.count % (char_room + 1) + length (letter_of r))) r
      (record { pauses = r.pauses; heard = nothing_heard; chars = with_letter (letter_of r) r.chars })
  unfolding bit_leaves
  end_leaves = rw ending

-- a queue with one element more
pub one_put : (cap : ℕ) (q : Ring) (v : ℕ) → put_all cap q (v ∷ []) ≡ put_one cap q v
unfolding put_all
one_put cap q v = refl

pub ruleset word_ends = (end_said, end_leaves, one_put)
