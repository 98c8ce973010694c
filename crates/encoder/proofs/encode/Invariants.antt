-- `encoder::encode`: the laws of a turn at what is known there. Assumes nothing.
use Prim.Native.Nat.{◌-◌}
use Rattle.encoder.proofs.Turn.{Encoded}
use Rattle.encoder.proofs.encode.Given as goal

abbrev pub invariant-loop-t : goal.invariant-loop-t
invariant-loop-t l =
    Encoded l.code (record { period = l.period; row0 = l.row0; row1 = l.row1 }) l.bits l.steps l.initial.out l.t l.s l.column l.at l.out

abbrev pub decreases-loop-t : goal.decreases-loop-t
decreases-loop-t l = l.steps - l.t
