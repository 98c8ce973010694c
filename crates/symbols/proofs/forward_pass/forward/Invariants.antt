-- `symbols::forward_pass::forward`: the laws of a symbol at what is known there. Assumes nothing.
use Rattle.symbols.specs.Inner.{components_of}
use Rattle.symbols.proofs.Steps.{Forwarded}
use Rattle.symbols.proofs.forward_pass.forward.Given as goal

abbrev pub invariant-loop-t : goal.invariant-loop-t
invariant-loop-t l =
    Forwarded l.code (components_of l.symbols) l.count l.initial.rows l.sent.c0 l.sent.c1 l.rows l.pm l.to l.t
