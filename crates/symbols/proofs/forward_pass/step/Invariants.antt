-- `symbols::forward_pass::step`: the laws of a turn at what is known there. Assumes nothing.
use Rattle.symbols.proofs.Turn.{Turns}
use Rattle.symbols.proofs.forward_pass.step.Given as goal

abbrev pub invariant-loop-n : goal.invariant-loop-n
invariant-loop-n l = Turns l.sent.c0 l.sent.c1 l.fn.symbol.re l.fn.symbol.im l.pm l.initial.next l.initial.row l.next l.row l.s l.n
