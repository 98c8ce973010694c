-- `symbols::phasors::prices_of`: the table's four phasors. Assumes nothing.
use mathlib.Core.Path.{ap, ◌∙◌}
use Rattle.symbols.specs.Costs.{cost}
use Rattle.symbols.proofs.Prices.{phasor_01, phasor_11}
use Rattle.symbols.proofs.phasors.prices_of.Goals as goal

pub returns : goal.returns
returns c =
    record {
      of_00 = c.cost.ensures;
      of_01 = c.cost-2.ensures ∙ ap (cost _ _) phasor_01;
      of_10 = c.cost-3.ensures;
      of_11 = c.cost-4.ensures ∙ ap (cost _ _) phasor_11;
    }
