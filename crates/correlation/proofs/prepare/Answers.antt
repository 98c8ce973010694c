-- `correlation::prepare`: the five tests in their order. Assumes nothing.
use native.Mathlib.Omega.{arith}
use Rattle.refusal.proofs.Told.{handed_on}
use Rattle.encoder.proofs.Checks.{choice_few}
use Rattle.encoder.proofs.Selected.{chosen_narrow}
use Rattle.correlation.proofs.Checks.{refused_by_choice, refused_by_room, refused_by_scratch, none_refused}
use Rattle.correlation.proofs.Selected.{same_rows, half_few, rows_few, chosen_usable, used_chosen}
use Rattle.correlation.proofs.prepare.Goals as goal

pub half_of-half-requires : goal.half_of-half-requires
half_of-half-requires c = chosen_narrow c.choose-chosen.ensures

pub returns-in_err-refused_choice : goal.returns-in_err-refused_choice
returns-in_err-refused_choice c =
    rw (handed_on c.from_residual.result _ c.from_residual.ensures)
    (record { decided = refused_by_choice c.in_err-refused_choice.ensures _ _; ready = tt })

pub returns-then-room-info : goal.returns-then-room-info
returns-then-room-info c =
    record { decided = refused_by_room c.in_ok-refused_choice.ensures _ _ c.if-room-info.true; ready = tt }

pub overflow_add-steps : goal.overflow_add-steps
overflow_add-steps c =
    let few = choice_few c.in_ok-refused_choice.ensures in
    omega (arith, (chosen_narrow c.choose-chosen.ensures).narrow, few)

pub overflow_mul-half : goal.overflow_mul-half
overflow_mul-half c =
    omega (arith, half_few c.choose-chosen.ensures c.half_of-half.ensures)

pub overflow_mul-steps : goal.overflow_mul-steps
overflow_mul-steps c =
    let few = choice_few c.in_ok-refused_choice.ensures in
    omega (arith, rows_few c.choose-chosen.ensures c.half_of-half.ensures _ few)

pub returns-then-scratch-steps : goal.returns-then-scratch-steps
returns-then-scratch-steps c =
    record {
      decided =
          refused_by_scratch c.in_ok-refused_choice.ensures _ _ c.if-room-info.false
          (same_rows c.choose-chosen.ensures c.half_of-half.ensures _) c.if-scratch-steps.true;
      ready = tt;
    }

pub used_of-used-requires : goal.used_of-used-requires
used_of-used-requires c =
    chosen_usable c.choose-chosen.ensures _ (choice_few c.in_ok-refused_choice.ensures)

pub returns : goal.returns
returns c =
    record {
      decided =
          none_refused c.in_ok-refused_choice.ensures _ _ c.if-room-info.false
          (same_rows c.choose-chosen.ensures c.half_of-half.ensures _) c.if-scratch-steps.false;
      ready =
          record {
            chosen = c.choose-chosen.ensures;
            halved = c.half_of-half.ensures;
            used = used_chosen c.choose-chosen.ensures _ c.used_of-used.ensures;
          };
    }
