-- `readings::decode_readings`: the refusals in their order, then the decoding. Assumes nothing.
use mathlib.Core.Path.{refl, ap}
use native.Mathlib.Omega.{arith}
use Rattle.correlation.proofs.Answers.{not_prepared, bad_reading_lem, good_readings, finds_decodes}
use Rattle.correlation.proofs.Checks.{call_decodable}
use Rattle.correlation.proofs.Selected.{finds_selected}
use Rattle.correlation.proofs.Used.{used_within, bad_few}
use Rattle.refusal.specs.Answer.{accepted, refused}
use Rattle.refusal.specs.Numbers.{bad_reading}
use Rattle.refusal.proofs.Told.{handed_on}
use Rattle.refusal.proofs.Over.{both_refused}
use Rattle.readings.proofs.Used.{used_finite}
use Rattle.readings.proofs.decode_readings.Goals as goal

pub returns-in_err-ready : goal.returns-in_err-ready
returns-in_err-ready c =
    let is = rw c.len.ensures at c.in_err-ready.ensures in
    rw (handed_on c.from_residual.result _ c.from_residual.ensures)
    (both_refused (not_prepared _ _ _ _ _ _ _ _ _ is) refl refl refl)

pub first_bad-requires : goal.first_bad-requires
first_bad-requires c = omega (arith, c.len.ensures, used_within c.in_ok-ready.ensures.ready.used)

pub overflow_cast-result : goal.overflow_cast-result
overflow_cast-result c =
    let is = rw c.len.ensures at c.in_ok-ready.ensures in
    omega (arith, bad_few _ _ _ is.ready.used _ c.in-Some.ensures)

pub returns-in-Some : goal.returns-in-Some
returns-in-Some c =
    let is = rw c.len.ensures at c.in_ok-ready.ensures in
    both_refused (bad_reading_lem _ _ _ _ _ _ _ _ _ is c.in-Some.ensures) (ap (refused bad_reading) (omega arith)) (search) (search)

pub decode-score-requires : goal.decode-score-requires
decode-score-requires c =
    let is = rw c.len.ensures at c.in_ok-ready.ensures in
    record { shaped = call_decodable is refl refl; used = used_finite _ is c.in-None.ensures }

pub returns-in-None : goal.returns-in-None
returns-in-None c =
    let is = rw c.len.ensures at c.in_ok-ready.ensures in
    let found = finds_selected is.ready.chosen is.ready.halved c.decode-score.ensures.found in
    finds_decodes _ _ _ _ _ (good_readings _ _ _ _ _ _ _ _ _ is c.in-None.ensures) (ap accepted found.scored) found
