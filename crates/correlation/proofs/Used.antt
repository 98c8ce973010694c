-- Which readings are used: as many as are needed, where there are so many. Assumes nothing.
use mathlib.Core.List.{List}
use mathlib.Core.Path.{◌≡◌, sym, ap, ◌∙◌}
use Prim.Native.Nat.{ℕ, ◌≤◌, ◌<◌, min}
use native.Mathlib.Decide.{dec_lt}
use native.Mathlib.Omega.{arith}
use lib.ListN.{length, get_or, take, get_or-eq_default}
use lib.Seq.{get_or-take, take_all, length-take-le}
use Rattle.encoder.specs.Encode.{coded_length_of}
use Rattle.encoder.proofs.Selected.{length-chosen}
use Rattle.std.specs.Prelude.{Bool, Some}
use Rattle.refusal.specs.First.{FindsBad}
use Rattle.refusal.proofs.FirstBad.{found_first}
use Rattle.refusal.specs.Limits.{most}
use Rattle.trellis.specs.declared.KeepPattern.{KeepPattern}
use Rattle.trellis.specs.declared.Selected.{Selected}
use Rattle.trellis.specs.Choice.{code_of, pattern_of, keep_of}
use Rattle.trellis.specs.Codeword.{steps_of}
use Rattle.trellis.specs.Inner.{Chooses}
use Rattle.trellis.specs.Keep.{coded_length}
use Rattle.trellis.proofs.Chosen.{code_width, rate_pattern}
use Rattle.trellis.proofs.Columns.{rows_pattern}
use Rattle.trellis.proofs.Kept.{coded_le}
use Rattle.correlation.specs.Amounts.{most_readings}
use Rattle.correlation.specs.Inner.{Usable, UsedOf, UsedEach}

pub length-few : (code rate info : ℕ) → info ≤ most → coded_length_of code rate info ≤ most_readings
length-few code rate info h =
    omega (arith, coded_le (pattern_of code rate) (rate_pattern code rate) (steps_of (code_of code) info), code_width code)

pub usable_few : {keep : KeepPattern} {steps : ℕ} → Usable keep steps → coded_length (keep_of keep) steps ≤ most_readings
usable_few {keep} {steps} usable =
    omega (arith, coded_le (keep_of keep) (rows_pattern keep usable.pattern) steps, usable.few)

pub uses_fewer :
    {need count coded used : ℕ} → coded ≡ need → need ≤ most_readings → used ≡ min count coded → UsedOf need count used
uses_fewer e few is =
    record { short = λ g. omega (arith, e, is, g); enough = λ g. omega (arith, e, is, g); few = omega (arith, e, few, is) }

pub used_within : {need count used : ℕ} → UsedOf need count used → used ≤ count
used_within {need} {count} is =
    elim (dec_lt count need) [
      | yes h ↦ omega (arith, is.short h)
      | no h ↦ omega (arith, is.enough (omega arith), h)
    ]

module _ {A : Type 0} (need used : ℕ) (readings : List A) (is : UsedOf need (length readings) used) where
  pub used_taken : take used readings ≡ take need readings
  used_taken =
      elim (dec_lt (length readings) need) [
        | yes h ↦ take_all used readings (omega (arith, is.short h)) ∙ sym (take_all need readings (omega arith))
        | no h ↦ ap (λ (n : ℕ). take n readings) (is.enough (omega arith))
      ]

  pub used_counted : length (take need readings) ≡ used
  used_counted = ap (λ (l : List A). length l) (sym used_taken) ∙ length-take-le used readings (used_within is)

  -- the first bad one is few enough for a place
  pub bad_few : (is_good : A → Bool) {i : ℕ} → FindsBad is_good (take used readings) (Some i) → i < 65536
  bad_few is_good {i} found =
      omega (arith, (found_first is_good _ i found).1, length-take-le used readings (used_within is), is.few)

  -- behind the last used one none is read
  none_behind : (i : ℕ) → i < need → (i < used → ⊥) → length readings ≤ i
  none_behind i h more =
      elim (dec_lt (length readings) need) [
        | yes short ↦ omega (arith, is.short short, more)
        | no enough ↦ absurd (omega (arith, is.enough (omega arith), more, h))
      ]

-- so each that the steps use is as asked where the used ones are, and what stands for one that is missing
pub used_each :
    {A : Type 0} (Asked : A → Type 0) (d : A) (code rate info : ℕ) (readings : List A) {chosen : Selected} {used : ℕ} →
    Chooses code rate chosen → UsedOf (coded_length_of code rate info) (length readings) used → Asked d →
    ((i : ℕ) → i < used → Asked (get_or (take used readings) i d)) →
    UsedEach Asked d (keep_of chosen.keep) (steps_of chosen.code info) readings
used_each Asked d code rate info readings {chosen} {used} chooses is for_missing for_used =
    record {
      each = λ i h.
          elim (dec_lt i used) [
            | yes less ↦ rw (← get_or-take used readings i d less) (for_used i less)
            | no more ↦
                let behind = none_behind (coded_length_of code rate info) used readings is i
                (omega (arith, h, length-chosen chooses info)) more in
                rw (get_or-eq_default readings d behind) for_missing
          ];
    }
