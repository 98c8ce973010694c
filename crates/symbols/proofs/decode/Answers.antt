-- `symbols::decode`: all symbols of K5, then the way back over what they leave. Assumes nothing.
use Rattle.symbols.proofs.Selected.{chosen_k5}
use Rattle.symbols.proofs.Word.{way_walkable, way_finds}
use Rattle.symbols.proofs.decode.Goals as goal

pub forward-last-requires : goal.forward-last-requires
forward-last-requires c =
    rw (chosen_k5 c.conv_code-code.ensures) c.requires.ready

pub trace-requires : goal.trace-requires
trace-requires c =
    let is-k5 = chosen_k5 c.conv_code-code.ensures in
    rw is-k5 (way_walkable c.requires (rw is-k5 at c.forward-last.ensures))

pub returns : goal.returns
returns c =
    let is-k5 = chosen_k5 c.conv_code-code.ensures in
    way_finds c.requires (rw is-k5 at c.forward-last.ensures) (rw is-k5 at c.trace.ensures)
