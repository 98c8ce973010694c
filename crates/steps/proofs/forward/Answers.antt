-- `steps::forward`: the laws of a step at what is known there. Assumes nothing.
use native.Mathlib.Omega.{arith}
use borrow.Author.Tests.{eq-eqb}
use Rattle.correlation.proofs.Steps.{rows_sized, column_below, column_within, reads_few, middle_few, row_within, row_few}
use Rattle.correlation.proofs.Steps.{first_used, second_used}
use Rattle.steps.proofs.Steps.{held_starts, held_goes_on, held_ends, step_ready}
use Rattle.steps.proofs.forward.Goals as goal

pub sent_by_even-sent-requires : goal.sent_by_even-sent-requires
sent_by_even-sent-requires g c =
    c.requires.shaped.shape

pub loop-t-init : goal.loop-t-init
loop-t-init g c =
    rw (c.MARK-pm.ensures, c.ZERO.ensures) (held_starts g.met.D.Decoder.sound c.requires c.sent_by_even-sent.ensures.crossed)

pub bounds-row0-column : goal.bounds-row0-column
bounds-row0-column g c = column_within c.loop-t.invariant.forwarded

pub value_at-a-requires : goal.value_at-a-requires
value_at-a-requires g c =
    λ kept. c.requires.used.each _ (first_used c.loop-t.invariant.forwarded c.loop-t-test.true (eq-eqb _ 1 kept))

pub bounds-row0-column-in-loop-t : goal.bounds-row0-column-in-loop-t
bounds-row0-column-in-loop-t g c =
    column_within c.loop-t.invariant.forwarded

pub after-at-requires : goal.after-at-requires
after-at-requires g c =
    omega (arith, reads_few c.loop-t.invariant.forwarded c.loop-t-test.true)

pub bounds-row1-column : goal.bounds-row1-column
bounds-row1-column g c =
    column_within c.loop-t.invariant.forwarded

pub value_at-b-requires : goal.value_at-b-requires
value_at-b-requires g c =
    λ kept.
    c.requires.used.each _
    (second_used c.loop-t.invariant.forwarded c.loop-t-test.true c.after-at.ensures (eq-eqb _ 1 kept))

pub bounds-row1-column-in-loop-t : goal.bounds-row1-column-in-loop-t
bounds-row1-column-in-loop-t g c =
    column_within c.loop-t.invariant.forwarded

pub after-at-requires-in-loop-t : goal.after-at-requires-in-loop-t
after-at-requires-in-loop-t g c =
    omega (
      arith,
      middle_few c.loop-t.invariant.forwarded c.loop-t-test.true c.value_at-a.ensures c.after-at.ensures,
    )

pub slice_bounds-step_of-count : goal.slice_bounds-step_of-count
slice_bounds-step_of-count g c =
    omega (arith, row_within c.loop-t.invariant.forwarded c.loop-t-test.true)

pub slice_bounds-step_of-start : goal.slice_bounds-step_of-start
slice_bounds-step_of-start g c =
    omega (arith, row_within c.loop-t.invariant.forwarded c.loop-t-test.true)

pub step_of-requires : goal.step_of-requires
step_of-requires g c = (
  g.met.D.Decoder.fit,
  step_ready c.loop-t.invariant g.met.D.Decoder.sound c.loop-t-test.true c.after-at.ensures c.value_at-a.ensures
      c.value_at-b.ensures,
)

pub overflow_add-to : goal.overflow_add-to
overflow_add-to g c =
    omega (arith, row_few c.loop-t.invariant.forwarded c.loop-t-test.true)

pub next_column-column-requires : goal.next_column-column-requires
next_column-column-requires g c =
    column_below c.loop-t.invariant.forwarded

pub overflow_step-t : goal.overflow_step-t
overflow_step-t g c =
    omega (arith, c.loop-t-test.true, c.loop-t.invariant.forwarded.ready.few)

pub loop-t-preserved : goal.loop-t-preserved
loop-t-preserved g c =
    held_goes_on c.loop-t.invariant g.met.D.Decoder.sound c.loop-t-test.true c.after-at.ensures c.value_at-a.ensures
    c.value_at-b.ensures c.after-at-in-loop-t.ensures c.step_of.ensures (omega arith) c.next_column-column.ensures

pub shape_of-rows : goal.shape_of-rows
shape_of-rows g c = rows_sized c.loop-t.invariant.forwarded

pub returns : goal.returns
returns g c =
    held_ends c.loop-t.invariant c.loop-t-test.false _
