-- `symbols::forward_pass::first_least`: neighbours join, up to all states. Assumes nothing.
use Rattle.symbols.proofs.Least.{ranges_join, least_is_found}
use Rattle.symbols.proofs.forward_pass.first_least.Goals as goal

pub returns : goal.returns
returns c =
    least_is_found
    (ranges_join
    (ranges_join c.least_of_four.ensures c.least_of_four-2.ensures c.lesser-low.ensures)
    (ranges_join c.least_of_four-3.ensures c.least_of_four-4.ensures c.lesser-high.ensures)
    c.lesser-least.ensures)
