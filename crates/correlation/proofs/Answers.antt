-- The refusals in their order, and which score an accepted call has; and that a decoding keeps the promise. For any kind of
-- decoder. Assumes nothing.
use mathlib.Core.Bool.{Bool, true}
use mathlib.Core.List.{List}
use mathlib.Core.Path.{◌≡◌, sym, ap, ◌∙◌}
use Prim.Native.Nat.{ℕ, ◌<◌}
use native.Mathlib.Omega.{arith}
use lib.Dec.{ltb}
use lib.ListN.{length, get_or, take}
use lib.Seq.{length-take-le}
use Rattle.encoder.specs.Encode.{coded_length_of}
use Rattle.encoder.proofs.Checks.{checked_past}
use Rattle.std.specs.Prelude.{Ok, Err, Some, None}
use Rattle.refusal.specs.declared.Refusal.{Refusal}
use Rattle.refusal.specs.Answer.{Said, accepted, refused, refuse_when, number_of, place_of}
use Rattle.refusal.specs.First.{first_bad, FindsBad, refuse_at_bad}
use Rattle.refusal.specs.Lent.{over, Lent}
use Rattle.refusal.specs.Numbers.{short_output, short_scratch}
use Rattle.refusal.proofs.FirstBad.{some_bad, none_bad, found_first, found_none}
use Rattle.refusal.proofs.FirstBad.{accepted_past_bad, good_before, accepted_all_good}
use Rattle.refusal.proofs.Over.{both_accepted}
use Rattle.refusal.proofs.Told.{accepted_told, accepted_past}
use Rattle.trellis.specs.Choice.{code_of, pattern_of}
use Rattle.trellis.specs.Codeword.{steps_of}
use Rattle.trellis.proofs.Chosen.{code_narrow}
use Rattle.correlation.specs.Arithmetic.{Kind}
use Rattle.correlation.specs.Amounts.{survivors_of}
use Rattle.correlation.specs.declared.Prepared.{Prepared}
use Rattle.correlation.specs.Inner.{Prepares, FindsAt}
use Rattle.correlation.specs.Promise.{Decodes}
use Rattle.correlation.specs.Said.{answered}
use Rattle.correlation.proofs.Checks.{call_refused, call_passes}
use Rattle.correlation.proofs.Lengths.{length-word, length-filled}
use Rattle.correlation.proofs.Used.{used_taken, used_counted, used_within}

-- ---- the refusals

module _
    {A S : Type 0} (bad_number : ℕ) (is_good : A → Bool) (code rate info : ℕ) (readings : List A) (room scratch : ℕ)
    (score : S) where
  abbrev said : Said S
  said = answered bad_number is_good code rate info readings room scratch score

  -- what is still tested once the tests before have passed
  abbrev readings_tested : Said S
  readings_tested = refuse_at_bad bad_number is_good (take (coded_length_of code rate info) readings) (accepted score)

  pub not_prepared :
      {r : Refusal} → Prepares code rate info (length readings) room scratch (Err r) → said ≡ refused (number_of r) (place_of r)
  unfolding answered
  not_prepared is = call_refused is readings_tested

  module _ {p : Prepared} (is : Prepares code rate info (length readings) room scratch (Ok p)) where
    only_readings : said ≡ readings_tested
    unfolding answered
    only_readings = call_passes is readings_tested

    counted : length (take (coded_length_of code rate info) readings) ≡ p.used
    counted = used_counted (coded_length_of code rate info) p.used readings is.ready.used

    taken : first_bad is_good (take p.used readings) ≡ first_bad is_good (take (coded_length_of code rate info) readings)
    taken = ap (first_bad is_good) (used_taken (coded_length_of code rate info) p.used readings is.ready.used)

    pub bad_reading_lem : {i : ℕ} → FindsBad is_good (take p.used readings) (Some i) → said ≡ refused bad_number i
    bad_reading_lem {i} found =
        let first = found_first is_good _ i found in
        only_readings
        ∙ some_bad is_good bad_number (take (coded_length_of code rate info) readings) _ i (first.0 ∙ taken)
        (omega (arith, counted, first.1, length-take-le p.used readings (used_within is.ready.used)))

    pub good_readings : FindsBad is_good (take p.used readings) None → said ≡ accepted score
    good_readings found =
        let all = found_none is_good _ found in
        only_readings
        ∙ none_bad is_good bad_number (take (coded_length_of code rate info) readings) _
        (first_bad is_good (take p.used readings)) taken
        (omega (arith, counted, all, length-take-le p.used readings (used_within is.ready.used)))

  -- ---- what is accepted

  accepted_tested : (s : S) → said ≡ accepted s → readings_tested ≡ accepted s
  unfolding answered
  accepted_tested s e =
      let scratch_tested = refuse_when (ltb scratch (survivors_of code info)) short_scratch readings_tested in
      let room_tested = refuse_when (ltb room info) short_output scratch_tested in
      let few : room_tested ≡ accepted s = checked_past code rate info room_tested s e in
      let fits : scratch_tested ≡ accepted s = accepted_past (ltb room info) short_output scratch_tested s few in
      accepted_past (ltb scratch (survivors_of code info)) short_scratch readings_tested s fits

  pub accepted_score : (s : S) → said ≡ accepted s → s ≡ score
  accepted_score s e =
      let used = take (coded_length_of code rate info) readings in
      sym (accepted_told _ s (accepted_past_bad is_good bad_number used _ s (accepted_tested s e)))

  -- no used reading is bad
  pub accepted_good :
      (s : S) → said ≡ accepted s → (d : A) (i : ℕ) → i < length (take (coded_length_of code rate info) readings) →
      is_good (get_or (take (coded_length_of code rate info) readings) i d) ≡ true
  accepted_good s e d i h =
      let used = take (coded_length_of code rate info) readings in
      good_before is_good d used i
      (omega (arith, h, accepted_all_good is_good bad_number used (accepted score) s (accepted_tested s e)))

-- ---- what a decoding leaves is what it promises

pub finds_decodes :
    {A M S : Type 0} (kind : Kind A M) {Answers : Said S → Type 0} {said : Said S} (code rate info : ℕ) (readings : List A)
    {score : S} {r : M} {out scratch : Lent ℕ} →
    said ≡ accepted score → Answers (accepted score) → FindsAt kind code rate info readings r out scratch →
    Decodes kind Answers said code rate info readings out scratch
unfolding over
finds_decodes kind code rate info readings accepts answer finds =
    let chosen = code_of code in
    let p = pattern_of code rate in
    both_accepted accepts answer
    (finds.output ∙ rw (length-word kind chosen p readings info))
    (finds.survivors ∙ rw (length-filled kind chosen p readings (code_narrow code).some (steps_of chosen info)))
