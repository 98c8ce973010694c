-- `steps::step`: the laws of a turn at what is known there. Assumes nothing.
use Prim.Native.Nat.{◌-◌}
use Rattle.steps.proofs.Turn.{TurnsHeld}
use Rattle.steps.proofs.step.Given as goal

abbrev pub invariant-loop-n : goal.invariant-loop-n
invariant-loop-n g l =
    TurnsHeld g.D.Decoder.held l.half l.sent.c0 l.sent.c1 l.a l.b l.pm l.initial.next l.initial.row l.next l.row l.s l.n

abbrev pub decreases-loop-n : goal.decreases-loop-n
decreases-loop-n g l = l.half - l.n
