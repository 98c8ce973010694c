-- `streaming_steps::history::state_behind`: the laws of a turn at what is known there. Assumes nothing.
use native.Mathlib.Omega.{arith}
use Rattle.streaming_steps.proofs.Back.{going_back_goes_on, going_back_ends}
use Rattle.streaming_steps.proofs.history.state_behind.Goals as goal

pub loop-preserved : goal.loop-preserved
loop-preserved c =
    going_back_goes_on c.loop.invariant (omega arith)

pub returns : goal.returns
returns c = going_back_ends c.loop.invariant (omega arith)
