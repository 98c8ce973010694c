-- `streaming::flush_lent`: refused for a short output, or the laws of a turn at what is known there. Assumes nothing.
use Rattle.streaming.proofs.Flushing.{Flushing}
use Rattle.streaming.proofs.flush_lent.Given as goal

abbrev pub invariant-loop : goal.invariant-loop
invariant-loop l = Flushing l.initial.at l.initial.history l.initial.out l.counter l.at l.history l.out l.written
