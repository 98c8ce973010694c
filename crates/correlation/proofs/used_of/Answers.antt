-- `correlation::used_of`: the coded length, or fewer where there are fewer. Assumes nothing.
use native.Mathlib.Omega.{arith}
use Rattle.correlation.proofs.Used.{usable_few, uses_fewer}
use Rattle.correlation.proofs.used_of.Goals as goal

pub coded_len-coded-requires : goal.coded_len-coded-requires
coded_len-coded-requires c = record { rows = c.requires.pattern; few = omega arith }

pub returns : goal.returns
returns c = uses_fewer c.coded_len-coded.ensures (usable_few c.requires) c.min.ensures
