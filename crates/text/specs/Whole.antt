-- What was written fixes a line: the bytes behind it are zeros, as many as there is room for. The implementation of
-- `Model` cites these laws. Assumes nothing.
use mathlib.Core.List.{List, ◌++◌}
use mathlib.Core.Path.{◌≡◌, sym, ap, ◌∙◌}
use Prim.Native.Nat.{ℕ, ◌-◌}
use native.Mathlib.Omega.{arith}
use lib.ListN.{take, length, replicate}
use Rattle.std.proofs.lemmas.List.{take-append-drop, length-take-le}
use Rattle.text.specs.Text.{Written}

module _ {room len : ℕ} {bytes : List ℕ} (written : Written room len bytes) where
  pub length_back : length (take len bytes) ≡ len
  length_back = length-take-le len bytes (omega (arith, written.within, written.sized))

  pub bytes_back : take len bytes ++ replicate (room - length (take len bytes)) 0 ≡ bytes
  bytes_back =
      ap (λ (n : ℕ). take len bytes ++ replicate (room - n) 0) length_back
      ∙ ap (λ (rest : List ℕ). take len bytes ++ rest) (sym written.behind)
      ∙ take-append-drop len bytes
