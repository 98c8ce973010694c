-- `streaming_steps::history::keep`: the laws of a turn at what is known there. Assumes nothing.
use native.Mathlib.Omega.{arith}
use Rattle.streaming_steps.proofs.Kept.{keeping_starts, keeping_goes_on}
use Rattle.streaming_steps.proofs.history.keep.Goals as goal

pub loop-s-init : goal.loop-s-init
loop-s-init c = search keeping_starts

pub loop-s-preserved : goal.loop-s-preserved
loop-s-preserved c =
    keeping_goes_on c.loop-s.invariant (omega arith) (omega arith) c.survivor.ensures
