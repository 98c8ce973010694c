-- `correlation::after`: a column that is 1 keeps its place. Assumes nothing.
use native.Mathlib.Omega.{arith}
use borrow.Author.Tests.{eq-eqb, ne_eqb}
use Rattle.correlation.proofs.after.Goals as goal

pub returns-then-column-eq1 : goal.returns-then-column-eq1
returns-then-column-eq1 c = rw (eq-eqb c.args.column 1 c.if-column-eq1.true)

pub returns-else-column-eq1 : goal.returns-else-column-eq1
returns-else-column-eq1 c = rw (ne_eqb c.args.column 1 c.if-column-eq1.false) (omega arith)
