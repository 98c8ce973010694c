-- Of an input only the bytes that the program has room for count: what lies beyond has no part in its output. Assumes nothing.
use mathlib.Core.Bool.{false}
use mathlib.Core.List.{List, []}
use mathlib.Core.Path.{◌≡◌, sym, ap, ◌∙◌}
use Prim.Native.Nat.{ℕ, ◌+◌, ◌<◌}
use native.Mathlib.Decide.{dec_lt}
use native.Mathlib.Omega.{arith}
use borrow.Author.Tests.{lt-ltb, le-ltb}
use lib.ListN.{length, take}
use lib.Seq.{take_all, length-take-le}
use Rattle.refusal.specs.Answer.{refused}
use Rattle.refusal.specs.Numbers.{bad_input}
use Rattle.line.specs.Line.{most_bytes, shaped, line_of, output}
use Rattle.line.proofs.Decoding.{unshaped_said, output_refused}

too_long_unshaped : (n : ℕ) → most_bytes < n → shaped n ≡ false
too_long_unshaped n h = rw (le-ltb n 4 (omega arith), lt-ltb most_bytes n h)

too_long_refused : (input : List ℕ) → most_bytes < length input → output input ≡ line_of (refused bad_input 0) []
too_long_refused input h = output_refused input bad_input 0 (unshaped_said input (too_long_unshaped (length input) h))

pub output_of_first_bytes : (input : List ℕ) → output (take (most_bytes + 1) input) ≡ output input
output_of_first_bytes input =
    elim (dec_lt most_bytes (length input)) [
      | yes long ↦
          let still_long : most_bytes < length (take (most_bytes + 1) input) =
          omega (arith, length-take-le (most_bytes + 1) input (omega arith)) in
          too_long_refused (take (most_bytes + 1) input) still_long ∙ sym (too_long_refused input long)
      | no short ↦ ap output (take_all (most_bytes + 1) input (omega arith))
    ]
