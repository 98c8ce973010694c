-- `answers::answer_lines`: what is left is no longer than the text, and gets shorter. Assumes nothing.
use Rattle.std.proofs.Common.{◌≤◌, length}
use Rattle.answers.proofs.answer_lines.Given as goal

abbrev pub invariant-loop-end : goal.invariant-loop-end
invariant-loop-end g l = length l.rest ≤ length l.text

abbrev pub decreases-loop-end : goal.decreases-loop-end
decreases-loop-end g l = length l.rest
