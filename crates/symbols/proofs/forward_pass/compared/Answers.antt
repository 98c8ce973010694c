-- `symbols::forward_pass::compared`: by its tests. Assumes nothing.
use lib.Dec.{lit≤}
use lib.Ieee.{of_bits, neg}
use Rattle.f32s.proofs.Patterns.{number_below}
use Rattle.symbols.proofs.Compared.{least_kept, least_stands, most_kept, most_stands}
use Rattle.symbols.proofs.forward_pass.compared.Goals as goal

pub float_from_bits-most : goal.float_from_bits-most
float_from_bits-most c = number_below 0x7f80_0000 (lit≤ tt)

pub returns-then-most-m : goal.returns-then-most-m
unfolding of_bits neg
returns-then-most-m c = least_kept c.if-state-eq0.true c.if-most-m.true

pub returns-else-most-m : goal.returns-else-most-m
unfolding of_bits neg
returns-else-most-m c = least_stands _ c.if-state-eq0.true c.if-most-m.false

pub returns-then-m-most : goal.returns-then-m-most
unfolding of_bits neg
returns-then-m-most c = most_kept c.if-state-eq0.false c.if-m-most.true

pub returns-else-m-most : goal.returns-else-m-most
unfolding of_bits neg
returns-else-m-most c = most_stands _ c.if-state-eq0.false c.if-m-most.false
