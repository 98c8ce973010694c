-- `encoder::punctured_coded_len_with`: what is refused first, and the rest is the formula. Assumes nothing.
use mathlib.Core.Path.{sym, ap, ◌∙◌}
use native.Mathlib.Omega.{arith}
use Rattle.refusal.specs.Answer.{accepted}
use Rattle.refusal.proofs.Told.{handed_on}
use Rattle.encoder.proofs.Checks.{choice_few, length-refused, length-is}
use Rattle.encoder.proofs.Selected.{chosen_narrow, chosen_rows, length-chosen}
use Rattle.encoder.proofs.punctured_coded_len_with.Goals as goal

pub returns-in_err-refused_choice : goal.returns-in_err-refused_choice
returns-in_err-refused_choice c =
    rw (handed_on c.from_residual.result _ c.from_residual.ensures) (sym (length-refused c.in_err-refused_choice.ensures))

pub overflow_add-info : goal.overflow_add-info
overflow_add-info c =
    let few = choice_few c.in_ok-refused_choice.ensures in
    omega (arith, (chosen_narrow c.choose-chosen.ensures).narrow, few)

pub coded_len-requires : goal.coded_len-requires
coded_len-requires c =
    let few = choice_few c.in_ok-refused_choice.ensures in
    record {
      rows = chosen_rows c.choose-chosen.ensures;
      few = omega (arith, (chosen_narrow c.choose-chosen.ensures).narrow, few);
    }

pub returns : goal.returns
returns c =
    ap accepted (c.coded_len.ensures ∙ length-chosen c.choose-chosen.ensures _)
    ∙ sym (length-is c.in_ok-refused_choice.ensures)
