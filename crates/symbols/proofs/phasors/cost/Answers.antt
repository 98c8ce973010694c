-- `symbols::phasors::cost`: by its definition. Assumes nothing.
use mathlib.Core.Path.{refl}
use Rattle.symbols.specs.Costs.{cost}
use Rattle.symbols.proofs.phasors.cost.Goals as goal

pub returns : goal.returns
unfolding cost
returns c = refl
