-- `streaming_steps::metrics::least_of`: the laws of a turn at what is known there. Assumes nothing.
use native.Mathlib.Omega.{arith}
use Rattle.streaming_steps.proofs.Normal.{least_starts, least_goes_on}
use Rattle.streaming_steps.proofs.metrics.least_of.Goals as goal

pub loop-m-init : goal.loop-m-init
loop-m-init c = least_starts

pub loop-m-preserved : goal.loop-m-preserved
loop-m-preserved c =
    least_goes_on c.loop-m.invariant c.loop-m-test.true (omega arith) c.better_of-least.ensures
