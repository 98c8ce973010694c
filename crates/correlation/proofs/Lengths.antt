-- How much a decoding writes: as many bits as are asked for to the output, a survivor for each state of each step to scratch.
-- Assumes nothing.
use mathlib.Core.List.{List}
use mathlib.Core.Path.{◌≡◌, refl}
use Prim.Native.Nat.{ℕ, ◌*◌, ◌^◌, ◌<◌}
use native.Mathlib.Omega.{arith}
use lib.ListN.{length, take}
use lib.Seq.{length-take-le}
use Rattle.best_path.specs.Run.{traced}
use Rattle.best_path.proofs.Rows.{length-rows, length-traced}
use Rattle.trellis.specs.declared.ConvCode.{ConvCode}
use Rattle.trellis.specs.Codeword.{steps_of}
use Rattle.trellis.specs.Keep.{Keep}
use Rattle.correlation.specs.Arithmetic.{Kind}
use Rattle.correlation.specs.Decode.{froms, word, filled_rows}
use Rattle.correlation.proofs.Steps.{rows_filled}

module _ {A M : Type 0} (kind : Kind A M) (code : ConvCode) (p : Keep) (readings : List A) where
  -- from whatever state the way back starts
  length_from : (info s : ℕ) → length (take info (traced kind.op code (froms kind code p readings) (steps_of code info) s)) ≡ info
  length_from info s =
      length-take-le info _ (omega (arith, length-traced kind.op code (froms kind code p readings) (steps_of code info) s))

  pub length-word : (info : ℕ) → length (word kind code p readings info) ≡ info
  unfolding word
  length-word info = length_from info _

  pub length-filled : 0 < code.width → (t : ℕ) → length (filled_rows kind code p readings t) ≡ t * 2 ^ code.width
  length-filled some = length-rows (rows_filled kind code some p readings (2 ^ code.width) refl)
