-- `symbols::forward_pass::step`: the laws of a turn at what is known there. Assumes nothing.
use native.Mathlib.Omega.{arith}
use Rattle.symbols.proofs.Turn.{turns_start, turns_go_on, turns_end}
use Rattle.symbols.proofs.forward_pass.step.Goals as goal

pub loop-n-init : goal.loop-n-init
loop-n-init c = turns_start

pub loop-n-preserved : goal.loop-n-preserved
loop-n-preserved c =
    turns_go_on c.loop-n.invariant c.loop-n-test.true c.prices_of-prices.ensures c.cost_of_pair-x.ensures
    (rw c.opposite-turned.ensures at c.cost_of_pair-y.ensures) c.butterfly-w.ensures (search) (search)

pub returns : goal.returns
returns c =
    turns_end c.loop-n.invariant c.loop-n-test.false c.requires.crossed (omega arith) c.requires.room
