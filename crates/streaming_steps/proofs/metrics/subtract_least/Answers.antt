-- `streaming_steps::metrics::subtract_least`: the laws of a turn at what is known there. Assumes nothing.
use native.Mathlib.Omega.{arith}
use Rattle.streaming_steps.proofs.Normal.{lowering_starts, lowering_goes_on, lowering_ends, none_subtracted}
use Rattle.streaming_steps.proofs.metrics.subtract_least.Goals as goal

pub loop-m-init : goal.loop-m-init
loop-m-init c = lowering_starts

pub loop-m-preserved : goal.loop-m-preserved
loop-m-preserved c =
    lowering_goes_on c.loop-m.invariant c.loop-m-test.true (omega arith) c.lower.ensures

pub returns-after-loop-m : goal.returns-after-loop-m
returns-after-loop-m c =
    lowering_ends c.loop-m.invariant (omega arith) c.least_of-least.ensures c.if-least.true

pub returns-else-least : goal.returns-else-least
returns-else-least c = none_subtracted c.least_of-least.ensures c.if-least.false
