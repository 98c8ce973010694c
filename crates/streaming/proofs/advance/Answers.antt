-- `streaming::advance`: a step, its survivors kept, the counters, and normalisation. Assumes nothing.
use mathlib.Core.Path.{refl}
use Rattle.streaming.proofs.OneSymbol.{parts_fed}
use Rattle.streaming.proofs.advance.Goals as goal

pub returns : goal.returns
returns c =
    parts_fed c.select.ensures refl c.keep.ensures c.next_count.ensures c.next_turn.ensures
    c.normalise_after.ensures
