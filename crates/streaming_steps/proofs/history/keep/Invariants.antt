-- `streaming_steps::history::keep`: the laws of a turn at what is known there. Assumes nothing.
use Rattle.streaming_steps.proofs.Kept.{Keeping}
use Rattle.streaming_steps.proofs.history.keep.Given as goal

abbrev pub invariant-loop-s : goal.invariant-loop-s
invariant-loop-s l = Keeping l.pm l.froms l.at l.initial.history l.s l.history
