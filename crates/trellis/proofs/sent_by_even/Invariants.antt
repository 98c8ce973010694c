-- `trellis::sent_by_even`: the laws of a turn at what is known there. Assumes nothing.
use Rattle.trellis.proofs.Even.{Filling}
use Rattle.trellis.proofs.sent_by_even.Given as goal

abbrev pub invariant-loop-n : goal.invariant-loop-n
invariant-loop-n l = Filling l.code l.half l.c0 l.c1 l.n
