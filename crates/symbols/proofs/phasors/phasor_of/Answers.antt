-- `symbols::phasors::phasor_of`: the table's phasor of the two lowest bits, by their tests. Assumes nothing.
use mathlib.Core.Path.{◌≡◌}
use Prim.Native.Nat.{◌%◌}
use native.Mathlib.Omega.{arith}
use Rattle.symbols.proofs.Prices.{phasor_01, phasor_11}
use Rattle.symbols.proofs.phasors.phasor_of.Goals as goal

pub returns-else-b1-eq0 : goal.returns-else-b1-eq0
returns-else-b1-eq0 c =
    let first : c.args.b0 % 2 ≡ 0 = omega arith in
    let second : c.args.b1 % 2 ≡ 1 = omega arith in
    rw (first, second) phasor_01

pub returns-else-b1-eq0-2 : goal.returns-else-b1-eq0-2
returns-else-b1-eq0-2 c =
    let first : c.args.b0 % 2 ≡ 1 = omega arith in
    let second : c.args.b1 % 2 ≡ 1 = omega arith in
    rw (first, second) phasor_11
