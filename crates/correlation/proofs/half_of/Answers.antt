-- `correlation::half_of`: 1 shifted is a power of two. Assumes nothing.
use mathlib.Core.Path.{◌∙◌}
use native.Mathlib.Nat.{one-mul}
use native.Mathlib.Omega.{arith}
use Prim.Native.Nat.{◌^◌, ◌-◌}
use lib.Dec.{lit<}
use lib.Pow.{shl_exact}
use Rattle.correlation.proofs.half_of.Goals as goal

pub returns : goal.returns
returns c =
    let width = c.args.code.width in
    let whole = shl_exact {a = 1} 1 (width - 1) 64 (lit< tt) (omega arith) in
    whole ∙ one-mul (2 ^ (width - 1))
