-- `steps::forward`: the laws of a step at what is known there. Assumes nothing.
use Prim.Native.Nat.{◌-◌}
use Rattle.steps.proofs.Steps.{ForwardedHeld}
use Rattle.steps.proofs.forward.Given as goal

abbrev pub invariant-loop-t : goal.invariant-loop-t
invariant-loop-t g l =
    ForwardedHeld g.D.Decoder.held l.code l.half (record { period = l.period; row0 = l.row0; row1 = l.row1 })
    (g.R.Readings.readings l.readings) l.steps l.initial.rows l.sent.c0 l.sent.c1 l.rows l.pm l.column l.at l.to l.t

abbrev pub decreases-loop-t : goal.decreases-loop-t
decreases-loop-t g l =
    l.steps - l.t
