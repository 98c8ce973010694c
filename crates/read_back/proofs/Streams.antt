-- What a writer puts, and what is keyed, are bits, each below 2. Assumes nothing.
use mathlib.Core.Bool.{Bool, true, false}
use mathlib.Core.List.{List, [], ◌∷◌, ◌++◌}
use Prim.Native.Nat.{ℕ, zero, suc, ◌<◌}
use lib.Dec.{lit<}
use lib.ListN.{replicate}
use Rattle.binary.proofs.Values.{Bits, none, more, digits_bits}
use Rattle.varicode_words.specs.Word.{length_of, word_of, bits_of}
use Rattle.varicode_writer.specs.Writer.{Call, opening, byte, closing, gap, bits_put, first_after, stream_from}
use Rattle.read_back.specs.Claims.{Key, zeros_behind, keyed}

pub append_bits : {xs ys : List ℕ} → Bits xs → Bits ys → Bits (xs ++ ys)
append_bits none s = s
append_bits (more h r) s = more h (append_bits r s)

pub run_bits : (n b : ℕ) → b < 2 → Bits (replicate n b)
run_bits zero b h = none
run_bits (suc n) b h = more h (run_bits n b h)

gap_bits : (first : Bool) → Bits (gap first)
gap_bits true = none
gap_bits false = run_bits 2 0 (lit< tt)

put_bits : (first : Bool) (c : Call) → Bits (bits_put first c)
unfolding bits_put bits_of
put_bits first (opening n) = run_bits n 0 (lit< tt)
put_bits first (byte b) = append_bits (gap_bits first) (digits_bits (length_of (word_of b)) (word_of b))
put_bits first (closing n) = append_bits (gap_bits first) (run_bits n 1 (lit< tt))

pub stream_bits : (first : Bool) (calls : List Call) → Bits (stream_from first calls)
unfolding stream_from
stream_bits first [] = none
stream_bits first (c ∷ cs) = append_bits (put_bits first c) (stream_bits (first_after first c) cs)

pub keyed_bits : (keys : List Key) → Bits (keyed keys)
unfolding keyed bits_of
keyed_bits [] = none
keyed_bits (k ∷ ks) =
    append_bits (digits_bits (length_of (word_of k.letter)) (word_of k.letter))
    (append_bits (run_bits (zeros_behind k) 0 (lit< tt)) (keyed_bits ks))
