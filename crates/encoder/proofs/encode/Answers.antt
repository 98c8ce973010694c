-- `encoder::encode`: the laws of a turn at what is known there. Assumes nothing.
use native.Mathlib.Omega.{arith}
use Rattle.encoder.proofs.Turn.{encoded_starts, encoded_goes_on, encoded_ends}
use Rattle.encoder.proofs.Turn.{column_below, branch_now, first_fits, second_fits}
use Rattle.encoder.proofs.encode.Goals as goal

pub loop-t-init : goal.loop-t-init
loop-t-init c = search encoded_starts

pub branch_bits-pair-requires : goal.branch_bits-pair-requires
branch_bits-pair-requires c =
    branch_now c.loop-t.invariant c.input_at-b.ensures

pub bounds-row0-column : goal.bounds-row0-column
bounds-row0-column c =
    omega (arith, column_below c.loop-t.invariant)

pub put-at-requires : goal.put-at-requires
put-at-requires c =
    first_fits c.loop-t.invariant c.loop-t-test.true _

pub bounds-row1-column : goal.bounds-row1-column
bounds-row1-column c =
    omega (arith, column_below c.loop-t.invariant)

pub put-at-requires-in-loop-t : goal.put-at-requires-in-loop-t
put-at-requires-in-loop-t c =
    second_fits c.loop-t.invariant c.input_at-b.ensures c.branch_bits-pair.ensures c.loop-t-test.true
    c.put-at.ensures _

pub next_state-s-requires : goal.next_state-s-requires
next_state-s-requires c =
    branch_now c.loop-t.invariant c.input_at-b.ensures

pub next_column-column-requires : goal.next_column-column-requires
next_column-column-requires c =
    column_below c.loop-t.invariant

pub loop-t-preserved : goal.loop-t-preserved
loop-t-preserved c =
    encoded_goes_on c.loop-t.invariant c.input_at-b.ensures c.branch_bits-pair.ensures c.loop-t-test.true
    c.put-at.ensures c.put-at-in-loop-t.ensures c.next_state-s.ensures c.next_column-column.ensures

pub returns : goal.returns
returns c = record { output = encoded_ends c.loop-t.invariant c.loop-t-test.false }
