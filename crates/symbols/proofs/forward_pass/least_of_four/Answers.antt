-- `symbols::forward_pass::least_of_four`: neighbours join. Assumes nothing.
use Rattle.symbols.proofs.Least.{ranges_join}
use Rattle.symbols.proofs.forward_pass.least_of_four.Goals as goal

pub returns : goal.returns
returns c =
    ranges_join
    (ranges_join c.placed_at.ensures c.placed_at-2.ensures c.lesser-low.ensures)
    (ranges_join c.placed_at-3.ensures c.placed_at-4.ensures c.lesser-high.ensures)
    c.lesser.ensures
