-- `f32s::from_all_bytes`: the laws of a turn at what is known there. Assumes nothing.
use Rattle.f32s.proofs.AllBytes.{Copied}
use Rattle.f32s.proofs.from_all_bytes.Given as goal

abbrev pub invariant-loop-i : goal.invariant-loop-i
invariant-loop-i l = Copied l.bytes l.initial.values l.count l.values l.i
