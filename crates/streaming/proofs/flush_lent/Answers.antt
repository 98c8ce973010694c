-- `streaming::flush_lent`: refused for a short output, or the laws of a turn at what is known there. Assumes nothing.
use native.Mathlib.Omega.{arith}
use Rattle.streaming.proofs.Flushing.{flushing_starts, flushing_nothing, flushing_bit}
use Rattle.streaming.proofs.Flushing.{room_refused, flushing_ends}
use Rattle.streaming.proofs.flush_lent.Goals as goal
use Rattle.streaming.proofs.flush_lent.Goals.{else-at-ge-FULL, then-at-ge-FULL}

pub returns-then-out-lt-LAG : goal.returns-then-out-lt-LAG
returns-then-out-lt-LAG c = room_refused c.refused.ensures (omega arith)

pub loop-init : goal.loop-init
loop-init c = flushing_starts _ _ _ (omega arith)

pub loop-preserved : goal.loop-preserved
loop-preserved c =
    elim c.if-at-ge-FULL.branch [
      | then-at-ge-FULL w ↦
          flushing_bit c.loop.invariant (omega arith) c.advance-at.ensures _ (omega arith) w.bit_behind.ensures w.out-is w.written-is
      | else-at-ge-FULL w ↦
          flushing_nothing c.loop.invariant (omega arith) c.advance-at.ensures (omega arith) w.out-is w.written-is
    ]

pub returns : goal.returns
returns c = flushing_ends c.loop.invariant (omega arith)
