-- `symbols::forward_pass::forward`: the laws of a symbol at what is known there. Assumes nothing.
use native.Mathlib.Omega.{arith}
use Rattle.symbols.proofs.Steps.{forwarded_starts, forwarded_goes_on}
use Rattle.symbols.proofs.forward_pass.forward.Goals as goal

pub loop-t-init : goal.loop-t-init
loop-t-init c =
    forwarded_starts c.requires c.sent_by_even-sent.ensures.crossed

pub loop-t-preserved : goal.loop-t-preserved
loop-t-preserved c =
    forwarded_goes_on c.loop-t.invariant c.loop-t-test.true c.symbol_at-symbol.ensures c.step.ensures (omega arith)
