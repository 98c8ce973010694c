-- From the promises of `viterbi_decode_soft_with` and `viterbi_decode_signed_with`, whatever outcomes they allow: on the same
-- numbers, with the same buffers, two calls have the same outcome; and demand 3 of the second, with no premise. Assumes nothing.
use mathlib.Core.Bool.{Bool, true, false, not}
use mathlib.Core.List.{List}
use mathlib.Core.Path.{◌≡◌, refl, sym, ap, subst, ◌∙◌}
use Prim.Native.Nat.{ℕ, suc, ◌^◌, ◌≤◌, ◌<◌}
use native.Mathlib.Decide.{dec_lt}
use native.Mathlib.Omega.{arith}
use borrow.Author.Tests.{ltb-false}
use denote.Ref.{Bor}
use lib.Ieee.{Float}
use lib.Dec.{T, ltb}
use lib.IntN.{ℤ, pos, negsuc, nat_abs}
use lib.ListN.{length, get_or, take, length-take, get_or-eq_default}
use lib.Seq.{take_at, get_or-take}
use lib.Signed.{mag}
use Rattle.best_word.proofs.Claimed.{decoded_wins, decoded_counts, decoded_stays}
use Rattle.correlation.specs.Decode as any
use Rattle.correlation.specs.Whole.{exactly}
use Rattle.correlation.proofs.Answers.{accepted_score, accepted_good}
use Rattle.correlation.proofs.Lengths.{length-word}
use Rattle.encoder.specs.Encode.{coded_length_of}
use Rattle.f32s.specs.Whole.{float_of}
use Rattle.readings.specs.Promise as readings
use Rattle.readings.proofs.viterbi_decode_soft_with.Reads as viterbi_decode_soft_with
use Rattle.std.specs.Prelude.{Result}
use Rattle.refusal.specs.declared.Refusal.{Refusal}
use Rattle.refusal.specs.Answer.{Says, Said, accepted, said_as}
use Rattle.refusal.specs.Lent.{over, leaves, Lent}
use Rattle.signed_readings.specs.Promise as signed_readings
use Rattle.signed_readings.specs.Said.{is_reading, count_of, decode_said}
use Rattle.signed_readings.proofs.viterbi_decode_signed_with.Reads as viterbi_decode_signed_with
use Rattle.trellis.specs.Choice.{code_of, pattern_of}
use Rattle.trellis.proofs.Chosen.{code_narrow, rate_pattern}
use Rattle.agreement.specs.Agree.{floats_of, SignedBytes, InRange, SameOutcome}
use Rattle.agreement.specs.Claim.{SignedClaim, ClaimOfSignedCall}
use Rattle.agreement.proofs.Agreed.{decoders_agree}

-- ---- agreement

promises_agree :
    (code rate info : ℕ) (zs : List ℤ) → InRange code rate info zs → {r : Result Float Refusal} {r' : Result ℤ Refusal}
    (given given' : List ℕ) {out out' scratch scratch' : List ℕ} →
    readings.Decodes (Says r) code rate info (floats_of zs) (record { given = given; left = out })
    (record { given = given'; left = scratch }) →
    signed_readings.Decodes (Says r') code rate info zs (record { given = given; left = out' })
    (record { given = given'; left = scratch' }) →
    SameOutcome r r' out out' scratch scratch'
promises_agree code rate info zs range given given' soft whole =
    let agree = decoders_agree code rate info zs range in
    let room = length given in
    let work = length given' in
    record {
      answer = soft.answer ∙ agree.answer room work ∙ sym (ap (said_as float_of) whole.answer);
      output = soft.output ∙ agree.output room work given ∙ sym whole.output;
      scratch = soft.scratch ∙ agree.survivors room work given' ∙ sym whole.scratch;
    }

-- of the contracts: whatever is read as f32s is the same numbers
pub entries_agree :
    (κs κs' code info rate out scratch : _) (floats : Bor (List Float)) (zs : Bor (List ℤ))
    (r : Result Float Refusal) (r' : Result ℤ Refusal) (left left' work work' : _) →
    floats.now ≡ floats_of zs.now → InRange code rate info zs.now →
    viterbi_decode_soft_with.Post κs (code, (floats, (info, (rate, (out, (scratch, tt)))))) r
    (code, (floats, (info, (rate, (left, (work, tt)))))) →
    viterbi_decode_signed_with.Post κs' (code, (zs, (info, (rate, (out, (scratch, tt)))))) r'
    (code, (zs, (info, (rate, (left', (work', tt)))))) →
    SameOutcome r r' left.now left'.now work.now work'.now
entries_agree κs κs' code info rate out scratch floats zs r r' left left' work work' same range soft whole =
    promises_agree code rate info zs.now range out.now scratch.now (rw same at soft) whole

-- of signed bytes that the decoder of signed bytes accepted, each used one is in range: so the two agree on them
pub accepted_in-range :
    (code rate info : ℕ) (zs : List ℤ) → SignedBytes zs → (room scratch : ℕ) (s : ℤ) →
    decode_said code rate info zs room scratch ≡ accepted s → InRange code rate info zs
accepted_in-range code rate info zs bytes room scratch s accepts =
    record {
      each = λ i h.
          elim (dec_lt i (length zs)) [
            | yes inside ↦
                let sized = length-take (coded_length_of code rate info) zs in
                let good = accepted_good _ is_reading code rate info zs room scratch _ s accepts (pos 0) i (omega (arith, sized)) in
                let here = get_or-take (coded_length_of code rate info) zs i (pos 0) h in
                not_lowest (get_or zs i (pos 0)) (bytes.each i) (ap is_reading (sym here) ∙ good)
            | no beyond ↦ let past : length zs ≤ i = omega arith in rw (get_or-eq_default zs (pos 0) past) (omega arith)
          ];
    }
  where
    not_lowest : (z : ℤ) → mag z < 2 ^ 7 → is_reading z ≡ true → nat_abs z ≤ 127
    not_lowest (pos n) small good = omega arith
    not_lowest (negsuc n) small good = not-below (ltb 126 n) refl good
      where
        not-below : (b : Bool) → ltb 126 n ≡ b → not b ≡ true → suc n ≤ 127
        not-below true e k = absurd (subst T (sym k) tt)
        not-below false e k = omega (arith, ltb-false 126 n e)

-- ---- demand 3

-- the codes and keep patterns of the tables
pub signed_word_wins :
    (code rate info : ℕ) (zs : List ℤ) →
    SignedClaim (code_of code) (pattern_of code rate) info zs (any.word exactly (code_of code) (pattern_of code rate) zs info)
    (count_of (any.score exactly (code_of code) (pattern_of code rate) zs info))
signed_word_wins code rate info zs =
    let some = (code_narrow code).some in
    let good = rate_pattern code rate in
    record {
      best = decoded_wins (code_of code) some (pattern_of code rate) good info zs;
      scored = ap count_of (decoded_counts (code_of code) some (pattern_of code rate) good info zs);
      stays = decoded_stays (code_of code) some (pattern_of code rate) good info zs;
    }

module _ (code rate info : ℕ) (zs : List ℤ) where
  abbrev decoded : List ℕ
  decoded = any.word exactly (code_of code) (pattern_of code rate) zs info

  written : {said : Said ℤ} {s : ℤ} → said ≡ accepted s → (new old : List ℕ) → new ≡ leaves said decoded old → take info new ≡ decoded
  unfolding over
  written accepts new old e =
      ap (take info) (e ∙ ap (λ (a : Said ℤ). leaves a decoded old) accepts)
      ∙ take_at decoded _ info (length-word exactly (code_of code) (pattern_of code rate) zs info)

  promise_claimed :
      {r : Result ℤ Refusal} {out scratch : Lent ℕ} → signed_readings.Decodes (Says r) code rate info zs out scratch →
      ClaimOfSignedCall code rate info zs r out.left
  promise_claimed {r} {out} {scratch} promised =
      record {
        accepts = λ s e.
            let accepts : decode_said code rate info zs (length out.given) (length scratch.given) ≡ accepted s =
            sym promised.answer ∙ e in
            rw (
              written accepts out.left out.given promised.output,
              accepted_score _ _ code rate info zs (length out.given) (length scratch.given) _ s accepts,
            )
            (signed_word_wins code rate info zs);
      }

pub signed_with_claimed :
    (κs code readings info rate out scratch : _) (r : Result ℤ Refusal) (left work : _) →
    viterbi_decode_signed_with.Post κs (code, (readings, (info, (rate, (out, (scratch, tt)))))) r
    (code, (readings, (info, (rate, (left, (work, tt)))))) →
    ClaimOfSignedCall code rate info readings.now r left.now
signed_with_claimed κs code readings info rate out scratch r left work = promise_claimed code rate info readings.now
