-- A character takes at least three bits, in either reader. Assumes nothing.
use mathlib.Core.Bool.{Bool, true, false, cond}
use mathlib.Core.List.{List, [], ◌∷◌, ◌++◌}
use Prim.Native.Nat.{ℕ, zero, suc, ◌+◌, ◌-◌, ◌*◌, ◌/◌, min, ◌≤◌}
use native.Mathlib.Omega.{arith}
use lib.ListN.{length, length-append}
use Rattle.queue.specs.Ring.{inside, char_room}
use Rattle.varicode_reader.specs.Reader.{Reader, Heard, nothing_heard, ends, joined_to, letter_at, heard_after, brings_from, letters_from}
use Rattle.varicode_words.specs.Word.{decode_of}
use Rattle.varicode_words.proofs.NoWord.{decode_no_bits}
use Rattle.varicode_words.proofs.Search.{few_decoded}
use Rattle.read_back.specs.Runs.{ReaderRun}
use Rattle.read_back.specs.Claims.{BringsAThird}
use Rattle.read_back.proofs.ReaderRuns.{reader_hands_out}

-- a character comes of two bits heard and a third
looked_up_cost : (v n : ℕ) → 3 * length (decode_of v (n - 1)) ≤ 1 + min n 2
looked_up_cost v zero = rw (decode_no_bits v) (omega arith)
looked_up_cost v (suc zero) = rw (decode_no_bits v) (omega arith)
looked_up_cost v (suc (suc n)) = omega (arith, few_decoded v (suc (suc n) - 1))

bit_cost :
    (h : Heard) (b : ℕ) (e : Bool) →
    3 * length (cond e (decode_of (h.shift / 2) (h.len - 1)) []) + min (cond e nothing_heard (joined_to h b)).len 2 ≤ 1 + min h.len 2
bit_cost h b true = omega (arith, looked_up_cost (h.shift / 2) h.len)
bit_cost h b false = omega arith

module _ (p : Bool) where
  bits_cost : (h : Heard) (bits : List ℕ) → 3 * length (letters_from p h bits) ≤ length bits + min h.len 2
  unfolding letters_from brings_from letter_at heard_after
  bits_cost h [] = omega arith
  bits_cost h (b ∷ bits) =
      let after = heard_after p h b in
      omega (arith, length-append (letter_at p h b) (letters_from p after bits), bit_cost h b (ends p h b), bits_cost after bits)

pub at_most_a_third : BringsAThird
at_most_a_third p bits = omega (arith, bits_cost p nothing_heard bits)

-- so of a run: what was taken out and what is inside, against the bits that were pushed
pub at_most_a_third_comes_out :
    {p : Bool} {r : Reader} {bits out : List ℕ} → ReaderRun p r bits out → 3 * length (out ++ inside char_room r.chars) ≤ length bits
at_most_a_third_comes_out {p} {r} {bits} run = rw (reader_hands_out run) (at_most_a_third p bits)
