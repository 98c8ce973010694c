-- The readings that are used are readings, where none of them is −128; and the score as the entry answers it. Assumes nothing.
use mathlib.Core.List.{List}
use mathlib.Core.Path.{◌≡◌, refl, ap, ◌∙◌}
use Prim.Native.Nat.{ℕ, ◌*◌, ◌<◌}
use native.Mathlib.Omega.{arith}
use lib.IntN.{ℤ, pos, nat_abs}
use lib.ListN.{length, take}
use lib.Seq.{length-take-le}
use Rattle.std.specs.Prelude.{Ok, None}
use mir.Syntax.{w32}
use mir.Val.{to_z, of_z}
use Rattle.best_path.specs.Path.{Total, total}
use Rattle.correlation.specs.declared.Prepared.{Prepared}
use Rattle.correlation.specs.Inner.{Prepares}
use Rattle.correlation.proofs.Checks.{call_few}
use Rattle.correlation.proofs.Used.{used_each, used_within}
use Rattle.encoder.proofs.Selected.{chosen_narrow}
use Rattle.refusal.specs.Answer.{accepted}
use Rattle.refusal.specs.Lent.{Lent}
use Rattle.signed_butterflies.specs.Held.{Byte}
use Rattle.signed_butterflies.proofs.Words.{small_fits, back}
use Rattle.signed_forward.specs.Inner.{UsedBytes}
use Rattle.trellis.specs.Choice.{keep_of}
use Rattle.trellis.specs.Codeword.{steps_of}
use Rattle.signed_forward.specs.Inner.{exactly_held}
use Rattle.steps.specs.Inner as steps
use Rattle.signed_readings.specs.Inner.{Finds, FirstLow}
use Rattle.signed_readings.proofs.Score.{finds_score}
use Rattle.signed_readings.specs.Said.{count_of}

-- what a call comes to that earns none of the refusals 1 to 5: where none of the used readings is −128, each is from −127 to 127
pub used_bytes :
    {code rate info room scratch : ℕ} (readings : List ℤ) {p : Prepared} →
    Prepares code rate info (length readings) room scratch (Ok p) → FirstLow (take p.used readings) None →
    UsedBytes (keep_of p.chosen.keep) (steps_of p.chosen.code info) readings
used_bytes {code} {rate} {info} readings {p} is found =
    used_each Byte (pos 0) code rate info readings is.ready.chosen is.ready.used (record { small = omega arith })
    (λ i h. found.bytes refl i (omega (arith, h, length-take-le p.used readings (used_within is.ready.used))))

-- and no sum is too large for 32 bits
pub sums_fit :
    {code rate info count room scratch : ℕ} {p : Prepared} → Prepares code rate info count room scratch (Ok p) →
    254 * steps_of p.chosen.code info < 2147483648
sums_fit is = omega (arith, call_few is, (chosen_narrow is.ready.chosen).narrow)

-- the score that a decoding finds
pub score_found :
    {code rate info count room scratch : ℕ} {p : Prepared} {readings : List ℤ} {r : ℤ} {out work : Lent ℕ} →
    Prepares code rate info count room scratch (Ok p) →
    steps.Finds exactly_held p.chosen.code (keep_of p.chosen.keep) (2 * p.half) info readings r out work →
    Finds p.chosen.code (keep_of p.chosen.keep) (2 * p.half) info readings r out work
score_found is finds =
    let narrow = chosen_narrow is.ready.chosen in
    finds_score narrow.some (omega (arith, call_few is, narrow.narrow)) finds.near finds.found

pub scored_back : {r : ℤ} {m : Total} → total r ≡ m → nat_abs r < 2147483648 → accepted (to_z w32 (of_z w32 r)) ≡ accepted (count_of m)
scored_back {r} {m} e small = ap accepted (back r (small_fits r small) ∙ ap count_of e)
