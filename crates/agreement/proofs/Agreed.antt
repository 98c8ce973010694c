-- The two block decoders of readings agree: for every code, rate, info count and list of numbers of which each used one is from
-- −127 to 127, whatever room there is. Assumes nothing.
use mathlib.Core.Bool.{Bool, true, false, not}
use mathlib.Core.List.{List}
use mathlib.Core.Path.{◌≡◌, refl, sym, ap, ◌∙◌}
use Prim.Native.Nat.{ℕ, ◌*◌, ◌^◌, ◌≤◌, ◌<◌}
use native.Mathlib.Decide.{dec_lt}
use native.Mathlib.Nat.{le_refl, min-le_left}
use native.Mathlib.Omega.{arith}
use borrow.Author.Tests.{lt-ltb, le-ltb}
use lib.Dec.{ltb}
use lib.Ieee.{Float, binary32}
use lib.IntN.{ℤ, pos, negsuc, nat_abs}
use lib.ListN.{length, get_or, take, length-map, length-take, get_or-map}
use lib.Seq.{get_or-take}
use Rattle.correlation.specs.Decode as any
use Rattle.correlation.specs.Said.{answered}
use Rattle.correlation.specs.Whole.{exactly}
use Rattle.correlation.proofs.Limit.{limit_leaves}
use Rattle.correlation.proofs.Used.{length-few}
use Rattle.encoder.specs.Encode.{coded_length_of}
use Rattle.f32s.specs.Single.{finite}
use Rattle.f32s.specs.Whole.{float_of}
use Rattle.f32s.proofs.Wholes.{whole_of_int, whole_finite}
use Rattle.forward.specs.Decode.{word, score, filled_rows}
use Rattle.readings.specs.Said as readings
use Rattle.refusal.specs.Answer.{Said, accepted, refused, refuse_when, said_as}
use Rattle.refusal.specs.First.{refuse_at_bad}
use Rattle.refusal.specs.Lent.{leaves}
use Rattle.refusal.specs.Limits.{most}
use Rattle.refusal.specs.Numbers.{unknown_code, unknown_rate, too_many, short_output, short_scratch, bad_reading, bad_signed_byte}
use Rattle.refusal.proofs.FirstBad.{all_good, none_bad}
use Rattle.signed_readings.specs.Said as signed
use Rattle.trellis.specs.Choice.{known_code, code_of, known_rate, pattern_of}
use Rattle.trellis.specs.Codeword.{steps_of}
use Rattle.trellis.proofs.Chosen.{code_narrow, rate_pattern}
use Rattle.agreement.specs.Agree.{floats_of, InRange, Agree}
use Rattle.agreement.proofs.Runs.{take-map, Small, words_agree, rows_agree, scores_agree}

-- ---- no used reading is bad

small_reading : (z : ℤ) → nat_abs z ≤ 127 → signed.is_reading z ≡ true
small_reading (pos n) h = refl
small_reading (negsuc n) h = ap not (le-ltb 126 n (omega arith))

bytes_pass : {S : Type 0} (zs : List ℤ) (rest : Said S) → Small zs → refuse_at_bad bad_signed_byte signed.is_reading zs rest ≡ rest
bytes_pass zs rest small =
    let all = all_good signed.is_reading (pos 0) zs (λ i h. small_reading (get_or zs i (pos 0)) (small i h)) in
    none_bad signed.is_reading bad_signed_byte zs rest (length zs) (sym all) (le_refl (length zs))

floats_pass : {S : Type 0} (zs : List ℤ) (rest : Said S) → Small zs → refuse_at_bad bad_reading finite (floats_of zs) rest ≡ rest
floats_pass zs rest small =
    let sized = length-map zs float_of in
    let each : (i : ℕ) → i < length (floats_of zs) → finite (get_or (floats_of zs) i (float_of (pos 0))) ≡ true =
    λ i h.
    rw (get_or-map float_of zs i (pos 0))
    (whole_finite (whole_of_int binary32 (get_or zs i (pos 0)) (omega (arith, small i (omega (arith, h, sized)))))) in
    let all = all_good finite (float_of (pos 0)) (floats_of zs) each in
    none_bad finite bad_reading (floats_of zs) rest (length (floats_of zs)) (sym all) (le_refl (length (floats_of zs)))

-- ---- the refusals that come before

first_two :
    (a b : Bool) (c : Said ℤ) (d : Said Float) → d ≡ said_as float_of c →
    refuse_when a unknown_code (refuse_when b unknown_rate d) ≡ said_as float_of (refuse_when a unknown_code (refuse_when b unknown_rate c))
first_two true b c d e = refl
first_two false true c d e = refl
first_two false false c d e = e

next_two :
    (a b : Bool) (c : Said ℤ) (d : Said Float) → d ≡ said_as float_of c →
    refuse_when a short_output (refuse_when b short_scratch d)
    ≡ said_as float_of (refuse_when a short_output (refuse_when b short_scratch c))
next_two true b c d e = refl
next_two false true c d e = refl
next_two false false c d e = e

leaves_as : (s : Said ℤ) (new old : List ℕ) → leaves (said_as float_of s) new old ≡ leaves s new old
leaves_as (accepted z) new old = refl
leaves_as (refused number place) new old = refl

-- ---- the calls

module _ (code rate info : ℕ) (zs : List ℤ) (range : InRange code rate info zs) where
  abbrev used : List ℤ
  used = take (coded_length_of code rate info) zs

  used_small : Small used
  used_small i h =
      let within : i < coded_length_of code rate info =
      omega (
        arith,
        h,
        length-take (coded_length_of code rate info) zs,
        min-le_left (coded_length_of code rate info) (length zs),
      ) in
      rw (get_or-take (coded_length_of code rate info) zs i (pos 0) within) (range.each i within)

  module _ (short : info ≤ most) where
    -- within the limit the sums are far below 2^24
    few : 127 * coded_length_of code rate info ≤ 2 ^ 24
    few = omega (arith, length-few code rate info short)

    same_word :
        word (code_of code) (pattern_of code rate) (floats_of zs) info
        ≡ any.word exactly (code_of code) (pattern_of code rate) zs info
    same_word =
        words_agree (code_of code) (code_narrow code).some (pattern_of code rate) (rate_pattern code rate) info zs used_small few

    same_rows :
        filled_rows (code_of code) (pattern_of code rate) (floats_of zs) (steps_of (code_of code) info)
        ≡ any.filled_rows exactly (code_of code) (pattern_of code rate) zs (steps_of (code_of code) info)
    same_rows =
        rows_agree (code_of code) (code_narrow code).some (pattern_of code rate) (rate_pattern code rate) info zs used_small few

    same_score :
        score (code_of code) (pattern_of code rate) (floats_of zs) info
        ≡ float_of (signed.score (code_of code) (pattern_of code rate) zs info)
    same_score =
        scores_agree (code_of code) (code_narrow code).some (pattern_of code rate) (rate_pattern code rate) info zs used_small few

    examined :
        refuse_at_bad bad_reading finite (take (coded_length_of code rate info) (floats_of zs))
        (accepted (score (code_of code) (pattern_of code rate) (floats_of zs) info))
        ≡ said_as float_of
        (refuse_at_bad bad_signed_byte signed.is_reading used
        (accepted (signed.score (code_of code) (pattern_of code rate) zs info)))
    examined =
        rw (take-map float_of (coded_length_of code rate info) zs)
        (floats_pass used _ used_small ∙ ap accepted same_score ∙ sym (ap (said_as float_of) (bytes_pass used _ used_small)))

  answers :
      (room scratch : ℕ) →
      readings.decode_said code rate info (floats_of zs) room scratch
      ≡ said_as float_of (signed.decode_said code rate info zs room scratch)
  unfolding answered
  answers room scratch =
      elim (dec_lt most info) [
        | yes many ↦
            rw (lt-ltb most info many)
            (first_two (not (known_code code)) (not (known_rate code rate)) (refused too_many 0) (refused too_many 0) refl)
        | no other ↦ let short : info ≤ most = omega (arith, other) in
            rw (le-ltb most info short)
            (first_two (not (known_code code)) (not (known_rate code rate)) _ _
            (next_two (ltb room info) (ltb scratch (readings.survivors_of code info)) _ _ (examined short)))
      ]

  left :
      (room scratch : ℕ) (new other old : List ℕ) → (info ≤ most → new ≡ other) →
      leaves (readings.decode_said code rate info (floats_of zs) room scratch) new old
      ≡ leaves (signed.decode_said code rate info zs room scratch) other old
  left room scratch new other old same =
      ap (λ (s : Said Float). leaves s new old) (answers room scratch)
      ∙ leaves_as (signed.decode_said code rate info zs room scratch) new old
      ∙ limit_leaves bad_signed_byte signed.is_reading code rate info room scratch zs _ new other old same

  pub decoders_agree : Agree code rate info zs
  decoders_agree =
      record {
        answer = answers;
        output = λ room scratch old. left room scratch _ _ old same_word;
        survivors = λ room scratch old. left room scratch _ _ old same_rows;
      }
