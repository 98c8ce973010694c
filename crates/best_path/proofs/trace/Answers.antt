-- `best_path::trace`: the laws of a turn at what is known there. Assumes nothing.
use native.Mathlib.Omega.{arith}
use Rattle.best_path.proofs.Back.{walked_starts, walked_writes, walked_passes, walked_ends, row_holds}
use Rattle.best_path.proofs.trace.Goals as goal
use Rattle.best_path.proofs.trace.Goals.{else-i-info, then-i-info}

pub loop-i-init : goal.loop-i-init
loop-i-init c = walked_starts c.requires

pub overflow_add-s : goal.overflow_add-s
overflow_add-s c = omega (arith, row_holds c.requires c.loop-i.invariant c.loop-i-test.true, c.requires.filled)

pub bounds-rows-i : goal.bounds-rows-i
bounds-rows-i c = omega (arith, row_holds c.requires c.loop-i.invariant c.loop-i-test.true, c.requires.filled)

pub loop-i-preserved : goal.loop-i-preserved
loop-i-preserved c =
    let some = c.loop-i-test.true in
    elim c.if-i-info.branch [
      | then-i-info w ↦ walked_writes c.requires c.loop-i.invariant some w.if-i-info.true w.input_into.ensures w.out-is
      | else-i-info w ↦ walked_passes c.requires c.loop-i.invariant some w.if-i-info.false w.out-is
    ]

pub returns : goal.returns
returns c = walked_ends c.requires c.loop-i.invariant c.loop-i-test.false c.requires.fits
