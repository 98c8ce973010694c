-- `butterflies::or_nan`, by its test. Assumes nothing.
use lib.Ieee.{of_bits, div}
use Rattle.best_path.proofs.Candidates.{where_false}
use Rattle.butterflies.proofs.or_nan.Goals as goal

pub returns-else-reached : goal.returns-else-reached
unfolding div of_bits
returns-else-reached c = where_false c.args.reached _ _ c.if-reached.false
