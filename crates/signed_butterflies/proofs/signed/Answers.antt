-- `signed_butterflies::signed`: a coded bit below 1 is 0. Assumes nothing.
use mathlib.Core.Path.{◌∙◌}
use native.Mathlib.Omega.{arith}
use borrow.Author.Tests.{eq-eqb, ne_eqb}
use Rattle.signed_butterflies.proofs.Words.{back, neg-fits, neg-back}
use Rattle.signed_butterflies.proofs.signed.Goals as goal

pub overflow_sub-result : goal.overflow_sub-result
overflow_sub-result c = neg-fits _ c.ranges.a (omega (arith, c.requires.small))

pub returns-then-coded-lt1 : goal.returns-then-coded-lt1
returns-then-coded-lt1 c = back _ c.ranges.a ∙ rw (eq-eqb c.args.coded 0 (omega arith))

pub returns-else-coded-lt1 : goal.returns-else-coded-lt1
returns-else-coded-lt1 c =
    neg-back _ c.ranges.a (omega (arith, c.requires.small)) ∙ rw (ne_eqb c.args.coded 0 (λ e. omega arith))
