-- `trellis::window_of`: a bit that is shifted above the register and joined to it is added to it. Assumes nothing.
use mathlib.Core.Path.{ap, ◌∙◌}
use Prim.Native.Nat.{ℕ}
use native.Mathlib.Omega.{arith}
use borrow.Author.Rules.{rules}
use lib.Bits.{bit_or, or_shifted}
use lib.Pow.{shl_exact}
use Rattle.trellis.proofs.window_of.Goals as goal

pub returns : goal.returns
returns c =
    let a = c.args in
    ap (λ (n : ℕ). bit_or n a.s) (shl_exact 1 a.code.width 32 (search rules) (omega arith))
    ∙ or_shifted a.b a.code.width a.s (search rules)
