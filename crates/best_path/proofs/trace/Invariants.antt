-- `best_path::trace`: the laws of a turn at what is known there. Assumes nothing.
use Rattle.best_path.proofs.Back.{Walked}
use Rattle.best_path.proofs.trace.Given as goal

abbrev pub invariant-loop-i : goal.invariant-loop-i
invariant-loop-i l = Walked l.half l.rows l.steps l.last l.info l.initial.out l.out l.s l.i
