-- `signed_readings::viterbi_decode_signed_with`: the refusals in their order, then the decoding. Assumes nothing.
use mathlib.Core.Path.{refl}
use native.Mathlib.Omega.{arith}
use lib.ListN.{length-take}
use Rattle.correlation.proofs.Answers.{not_prepared, bad_reading_lem, good_readings, finds_decodes}
use Rattle.correlation.proofs.Checks.{call_decodable}
use Rattle.correlation.proofs.Selected.{finds_selected}
use Rattle.correlation.proofs.Used.{used_within, bad_few}
use Rattle.refusal.proofs.Told.{handed_on}
use Rattle.refusal.proofs.Over.{both_refused}
use Rattle.signed_readings.proofs.Used.{used_bytes, sums_fit, score_found, scored_back}
use Rattle.signed_readings.proofs.viterbi_decode_signed_with.Goals as goal

pub returns-in_err-ready : goal.returns-in_err-ready
returns-in_err-ready c =
    rw (handed_on c.from_residual.result _ c.from_residual.ensures)
    (both_refused (not_prepared _ _ _ _ _ _ _ _ _ c.in_err-ready.ensures) refl refl refl)

pub slice_bounds-first_low-end : goal.slice_bounds-first_low-end
slice_bounds-first_low-end c =
    simp length-take (omega (arith, used_within c.in_ok-ready.ensures.ready.used))

pub overflow_cast-result : goal.overflow_cast-result
overflow_cast-result c =
    omega (arith, bad_few _ _ _ c.in_ok-ready.ensures.ready.used _ c.in-Some.ensures.place)

pub returns-in-Some : goal.returns-in-Some
returns-in-Some c =
    both_refused (bad_reading_lem _ _ _ _ _ _ _ _ _ c.in_ok-ready.ensures c.in-Some.ensures.place) refl (search) (search)

pub decode-score-requires : goal.decode-score-requires
decode-score-requires c =
    record {
      shaped = call_decodable c.in_ok-ready.ensures refl refl;
      used = used_bytes _ c.in_ok-ready.ensures c.in-None.ensures;
    }

pub returns-in-None : goal.returns-in-None
returns-in-None c =
    let is = c.in_ok-ready.ensures in
    let finds = score_found is c.decode-score.ensures in
    let found = finds_selected is.ready.chosen is.ready.halved finds.found in
    finds_decodes _ _ _ _ _
    (good_readings _ _ _ _ _ _ _ _ _ is c.in-None.ensures.place)
    (scored_back found.scored (omega (arith, finds.small, sums_fit is))) found
