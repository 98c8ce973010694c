-- `streaming_steps::metrics::select`: the tables are what K5 sends from its even states. Assumes nothing.
use borrow.Author.Rules.{rules}
use Rattle.symbols.proofs.Selected.{chosen_k5}
use Rattle.streaming_steps.specs.Steps.{stepped, new_mets, new_froms}
use Rattle.streaming_steps.proofs.Tables.{sent_crossed}
use Rattle.streaming_steps.proofs.metrics.select.Goals as goal

pub step-requires : goal.step-requires
step-requires c =
    record { crossed = rw (chosen_k5 c.conv_code.ensures) sent_crossed; room = search rules }

pub returns : goal.returns
unfolding stepped new_mets new_froms
returns c =
    let selects = rw (chosen_k5 c.conv_code.ensures) at c.step.ensures in
    record { of_mets = selects.mets; of_froms = selects.froms }
