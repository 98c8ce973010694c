-- `answers::answer_all`: what is kept is within the text. Assumes nothing.
use Rattle.std.proofs.Common.{◌≤◌}
use Rattle.answers.proofs.answer_all.Given as goal

abbrev pub invariant-loop : goal.invariant-loop
invariant-loop g l = l.kept ≤ 266240
