-- The search for −128: what is not −128 is a reading of at most 127. Assumes nothing.
use mathlib.Core.Bool.{Bool, true, false, not}
use mathlib.Core.List.{List}
use mathlib.Core.Path.{◌≡◌, refl, sym, ap, ◌∙◌}
use Prim.Native.Nat.{ℕ, ◌+◌, ◌^◌, ◌≤◌, ◌<◌}
use native.Mathlib.Decide.{dec_lt}
use native.Mathlib.Omega.{arith}
use borrow.Author.Tests.{ltb-false}
use lib.IntN.{ℤ, pos, negsuc}
use lib.ListN.{length, get_or}
use lib.Signed.{lt_z, mag}
use mir.Syntax.{w8}
use mir.Val.{hbits, to_z, of_z}
use mir.ValLaws.{to_z-of_z}
use Rattle.std.specs.Prelude.{Some, None}
use Rattle.refusal.proofs.FirstBad.{Sought, sought_starts, none_found, found_here, sought_goes_on, finds_bad, finds_none}
use Rattle.signed_butterflies.specs.Held.{Byte}
use Rattle.signed_readings.specs.Inner.{FirstLow}
use Rattle.signed_readings.specs.Said.{is_reading}

-- the test as the machine makes it
low_test : (x : ℤ) (b : Bool) → mag x < 2 ^ hbits w8 → lt_z (to_z w8 (of_z w8 x)) (negsuc 126) ≡ b → lt_z x (negsuc 126) ≡ b
low_test x b known h = sym (ap (λ (z : ℤ). lt_z z (negsuc 126)) (to_z-of_z w8 x (record { sfits = known }))) ∙ h

not_low : (x : ℤ) → mag x < 2 ^ hbits w8 → lt_z x (negsuc 126) ≡ false → Byte x
not_low (pos n) known h = record { small = omega (arith, known) }
not_low (negsuc n) known h = record { small = omega (arith, ltb-false 126 n h) }

-- The invariant: the first i are readings.
pub record LowSought (readings : List ℤ) (i : ℕ) : Type 0 where
  pub sought : Sought is_reading readings i
  pub bytes : (j : ℕ) → j < i → Byte (get_or readings j (pos 0))

pub low_sought_starts : {readings : List ℤ} → LowSought readings 0
low_sought_starts = record { sought = sought_starts is_reading; bytes = λ j h. absurd (omega (arith, h)) }

module _ {readings : List ℤ} {i : ℕ} (now : LowSought readings i) where
  pub none_low : length readings ≤ i → FirstLow readings None
  none_low past =
      record {
        place = finds_none is_reading readings (omega (arith, none_found is_reading now.sought past));
        bytes = λ none j h. now.bytes j (omega (arith, past, h));
      }

  module _ (h : i < length readings) (known : mag (get_or readings i (pos 0)) < 2 ^ hbits w8) where
    pub low_here : lt_z (to_z w8 (of_z w8 (get_or readings i (pos 0)))) (negsuc 126) ≡ true → FirstLow readings (Some i)
    low_here e =
        let low = low_test (get_or readings i (pos 0)) true known e in
        record {
          place = finds_bad is_reading readings i h (found_here is_reading now.sought (pos 0) h refl (ap (λ (b : Bool). not (not b)) low));
          bytes = λ none. cc;
        }

    pub low_sought_goes_on : lt_z (to_z w8 (of_z w8 (get_or readings i (pos 0)))) (negsuc 126) ≡ false → LowSought readings (i + 1)
    low_sought_goes_on e =
        let high = low_test (get_or readings i (pos 0)) false known e in
        record {
          sought = sought_goes_on is_reading now.sought (pos 0) h refl (ap (λ (b : Bool). not (not b)) high);
          bytes = λ j g.
              elim (dec_lt j i) [
                | yes less ↦ now.bytes j less
                | no more ↦ let same : i ≡ j = omega (arith, more) in rw (← same) (not_low (get_or readings i (pos 0)) known high)
              ];
        }
