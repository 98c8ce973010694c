-- From the promise of `viterbi_decode_soft_with` and `viterbi_decode_bytes` to the claim. Whatever outcome the contract
-- allows: where the used readings are whole and within the sum, an accepted call has left a word in the output and answered a
-- score of which the claim holds, and no call is refused with 6. Assumes nothing.
use mathlib.Core.Bool.{Bool, true, false, not}
use mathlib.Core.List.{List}
use mathlib.Core.Path.{◌≡◌, sym, ap, ◌∙◌}
use Prim.Native.Nat.{ℕ}
use native.Mathlib.Nat.{le_refl}
use native.Mathlib.Omega.{arith}
use lib.Dec.{ltb}
use lib.Ieee.{Float, nan}
use lib.IntN.{ℤ}
use lib.ListN.{length, take}
use lib.Seq.{take_at}
use Rattle.correlation.specs.Said.{answered}
use Rattle.correlation.proofs.Answers.{accepted_score}
use Rattle.correlation.proofs.Lengths.{length-word}
use Rattle.f32s.specs.Single.{finite, all_of_bytes}
use Rattle.f32s.proofs.Wholes.{whole_finite}
use Rattle.forward.specs.Decode.{word, score}
use Rattle.forward.specs.Sums.{soft}
use Rattle.readings.specs.Promise.{Decodes}
use Rattle.readings.specs.Said.{survivors_of, examined, decode_said}
use Rattle.readings.proofs.viterbi_decode_bytes.Reads as viterbi_decode_bytes
use Rattle.readings.proofs.viterbi_decode_soft_with.Reads as viterbi_decode_soft_with
use Rattle.std.specs.Prelude.{Result}
use Rattle.refusal.specs.declared.Refusal.{Refusal}
use Rattle.refusal.specs.Answer.{Said, accepted, refused, refuse_when, Says}
use Rattle.refusal.specs.Lent.{over, leaves, Lent}
use Rattle.refusal.specs.Limits.{most}
use Rattle.refusal.specs.Numbers.{bad_reading}
use Rattle.refusal.proofs.FirstBad.{all_good, none_bad}
use Rattle.trellis.specs.Choice.{known_code, code_of, known_rate, pattern_of}
use Rattle.trellis.specs.Codeword.{steps_of}
use Rattle.trellis.specs.Keep.{coded_length}
use Rattle.best_word.specs.Claim.{Exact, ClaimOfCall}
use Rattle.best_word.proofs.Claimed.{decoded_word_wins}

-- ---- of what the promise cites

-- a refusal with another number comes from a later test
past_other :
    {A : Type 0} (test : Bool) (number n place : ℕ) (rest : Said A) → (number ≡ n → ⊥) →
    refuse_when test number rest ≡ refused n place → rest ≡ refused n place
past_other true number n place rest other e = absurd (other (cc))
past_other false number n place rest other e = e

module _ (code rate info : ℕ) (readings : List Float) (room scratch : ℕ) where
  abbrev said : Said Float
  said = decode_said code rate info readings room scratch

  abbrev decoded : List ℕ
  decoded = word (code_of code) (pattern_of code rate) readings info

  abbrev used : List Float
  used = take (coded_length (pattern_of code rate) (steps_of (code_of code) info)) readings

  written : (s : Float) → said ≡ accepted s → (new old : List ℕ) → new ≡ leaves said decoded old → take info new ≡ decoded
  unfolding over
  written s accepts new old e =
      ap (take info) (e ∙ ap (λ (a : Said Float). leaves a decoded old) accepts)
      ∙ take_at decoded _ info (length-word soft (code_of code) (pattern_of code rate) readings info)

  -- whole readings are finite
  finite_used :
      (zs : List ℤ) → Exact (code_of code) (pattern_of code rate) info readings zs → (rest : Said Float) → examined used rest ≡ rest
  finite_used zs exact rest =
      let whole = exact.whole in
      let all = all_good finite nan used (λ i h. whole_finite (whole.each i (omega (arith, whole.sized)))) in
      none_bad finite bad_reading used rest (length used) (sym all) (le_refl (length used))

  -- so no test is left that refuses with 6
  none_6 :
      (zs : List ℤ) → Exact (code_of code) (pattern_of code rate) info readings zs → (place : ℕ) → said ≡ refused bad_reading place → ⊥
  unfolding answered
  none_6 zs exact place e =
      let code_known = past_other (not (known_code code)) 1 6 place _ (λ h. omega arith) e in
      let rate_known = past_other (not (known_rate code rate)) 2 6 place _ (λ h. omega arith) code_known in
      let few = past_other (ltb most info) 3 6 place _ (λ h. omega arith) rate_known in
      let fits = past_other (ltb room info) 4 6 place _ (λ h. omega arith) few in
      let rows_fit = past_other (ltb scratch (survivors_of code info)) 5 6 place _ (λ h. omega arith) fits in
      let never : ◌≡◌ {A = ℕ} 0 1 = cc (finite_used zs exact (accepted (score (code_of code) (pattern_of code rate) readings info))) in
      omega arith

-- ---- of the promise

promise_claimed :
    (code rate info : ℕ) (readings : List Float) {r : Result Float Refusal} {out scratch : Lent ℕ} →
    Decodes (Says r) code rate info readings out scratch → ClaimOfCall code rate info readings r out.left
promise_claimed code rate info readings {r} {out} {scratch} promised =
    let room = length out.given in
    let work = length scratch.given in
    record {
      accepts = λ zs exact s e.
          let accepts : said code rate info readings room work ≡ accepted s = sym promised.answer ∙ e in
          rw (
            written code rate info readings room work s accepts out.left out.given promised.output,
            accepted_score _ _ code rate info readings room work _ s accepts,
          )
          (decoded_word_wins code rate info readings zs exact);
      never_6 = λ zs exact place e. none_6 code rate info readings room work zs exact place (sym promised.answer ∙ e);
    }

-- ---- of the contracts

pub soft_with_claimed :
    (κs code readings info rate out scratch : _) (r : Result Float Refusal) (left work : _) →
    viterbi_decode_soft_with.Post κs (code, (readings, (info, (rate, (out, (scratch, tt)))))) r
    (code, (readings, (info, (rate, (left, (work, tt)))))) →
    ClaimOfCall code rate info readings.now r left.now
soft_with_claimed κs code readings info rate out scratch r left work = promise_claimed code rate info readings.now

pub bytes_claimed :
    (κs code bytes info rate out scratch : _) (r : Result Float Refusal) (left work : _) →
    viterbi_decode_bytes.Post κs (code, (bytes, (info, (rate, (out, (scratch, tt)))))) r
    (code, (bytes, (info, (rate, (left, (work, tt)))))) →
    ClaimOfCall code rate info (all_of_bytes bytes.now) r left.now
bytes_claimed κs code bytes info rate out scratch r left work = promise_claimed code rate info (all_of_bytes bytes.now)
