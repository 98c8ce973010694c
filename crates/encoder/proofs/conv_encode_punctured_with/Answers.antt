-- `encoder::conv_encode_punctured_with`: refusals 1 to 3, then a short output, then the codeword. Assumes nothing.
use mathlib.Core.Path.{refl, ◌∙◌}
use native.Mathlib.Omega.{arith}
use Rattle.refusal.proofs.Told.{handed_on}
use Rattle.refusal.proofs.Over.{writes_refused, writes_accepted}
use Rattle.encoder.proofs.Checks.{choice_few, encode_refused, encode_short, encode_fits}
use Rattle.encoder.proofs.Selected.{chosen_narrow, chosen_rows, length-chosen, ready_at, codeword_left}
use Rattle.encoder.proofs.conv_encode_punctured_with.Goals as goal

pub returns-in_err-refused_choice : goal.returns-in_err-refused_choice
returns-in_err-refused_choice c =
    rw (handed_on c.from_residual.result _ c.from_residual.ensures)
    (writes_refused (encode_refused c.in_err-refused_choice.ensures _) refl refl)

pub overflow_add-steps : goal.overflow_add-steps
overflow_add-steps c =
    let few = choice_few c.in_ok-refused_choice.ensures in
    omega (arith, (chosen_narrow c.choose-chosen.ensures).narrow, few)

pub coded_len-need-requires : goal.coded_len-need-requires
coded_len-need-requires c =
    let few = choice_few c.in_ok-refused_choice.ensures in
    record {
      rows = chosen_rows c.choose-chosen.ensures;
      few = omega (arith, (chosen_narrow c.choose-chosen.ensures).narrow, few);
    }

pub returns-then-out-need : goal.returns-then-out-need
returns-then-out-need c =
    let need = c.coded_len-need.ensures ∙ length-chosen c.choose-chosen.ensures _ in
    writes_refused (encode_short c.in_ok-refused_choice.ensures need _ c.if-out-need.true) refl refl

pub encode_at-requires : goal.encode_at-requires
encode_at-requires c =
    ready_at c.choose-chosen.ensures c.coded_len-need.ensures (omega arith)

pub returns : goal.returns
returns c =
    let need = c.coded_len-need.ensures ∙ length-chosen c.choose-chosen.ensures _ in
    writes_accepted (encode_fits c.in_ok-refused_choice.ensures need _ (omega arith)) refl
    (codeword_left c.choose-chosen.ensures c.encode_at.ensures)
