-- `streaming_steps::history::state_behind`: the laws of a turn at what is known there. Assumes nothing.
use Rattle.streaming_steps.proofs.Back.{GoingBack}
use Rattle.streaming_steps.proofs.history.state_behind.Given as goal

abbrev pub invariant-loop : goal.invariant-loop
invariant-loop l = GoingBack l.history l.fn.row l.fn.s l.counter l.row l.s
