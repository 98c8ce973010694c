-- A door's number tells its answer: read as the host reads it, it is the answer again. Assumes nothing.
use mathlib.Core.Bool.{Bool, true, false, cond}
use mathlib.Core.List.{List}
use mathlib.Core.Path.{◌≡◌, refl, ap, ap₂}
use Prim.Native.Nat.{ℕ, ◌+◌, ◌*◌, ◌/◌, ◌%◌, ◌^◌, ◌<◌}
use native.Mathlib.Omega.{arith}
use borrow.Author.Tests.{lt-ltb, le-ltb, ltb-true}
use lib.Arith.{digits_div, digits_mod}
use lib.Dec.{ltb}
use lib.ListN.{length}
use Rattle.refusal.specs.Answer.{Said, accepted, refused, refuse_when, said_as, door_number, door_read}
use Rattle.refusal.specs.First.{first_bad, refuse_at_bad}

-- an answer whose two kinds a door's number keeps apart: its value is below 2^32, or the refusal's number is above 0 and its
-- place below 2^32
pub data Crosses {A : Type 0} (value : A → ℕ) : Said A → Type 0 where
  small : {a : A} → value a < 2 ^ 32 → Crosses value (accepted a)
  numbered : {number place : ℕ} → 0 < number → place < 2 ^ 32 → Crosses value (refused number place)

pub count_tells : (s : Said ℕ) → Crosses (λ n. n) s → door_read (door_number s) ≡ s
unfolding door_read door_number
count_tells (accepted n) (small h) =
    ap (λ (below : Bool). cond below (accepted n) (refused (n / 2 ^ 32) (n % 2 ^ 32))) (lt-ltb n (2 ^ 32) h)
count_tells (refused number place) (numbered some low) =
    rw (le-ltb (number * 2 ^ 32 + place) (2 ^ 32) (omega arith)) (ap₂ refused (digits_div number low) (digits_mod number low))

-- an answer whose value crosses as a number
module _ {A : Type 0} (value : A → ℕ) where
  value_crosses : (s : Said A) → Crosses value s → Crosses (λ n. n) (said_as value s)
  value_crosses (accepted x) (small h) = small h
  value_crosses (refused number place) (numbered some low) = numbered some low

  pub value_tells : (s : Said A) → Crosses value s → door_read (door_number (said_as value s)) ≡ said_as value s
  value_tells s crosses = count_tells (said_as value s) (value_crosses s crosses)

  -- a refusal at place 0 crosses; what comes after it counts only where there is none
  pub crosses_unless :
      (test : Bool) (number : ℕ) (rest : Said A) → 0 < number → (test ≡ false → Crosses value rest) →
      Crosses value (refuse_when test number rest)
  crosses_unless true number rest some later = numbered {place = 0} some (omega arith)
  crosses_unless false number rest some later = later refl

  -- so does one at the first bad value, where there are fewer than 2^32 values
  pub crosses_at_bad :
      {E : Type 0} (number : ℕ) (is_good : E → Bool) (xs : List E) (rest : Said A) →
      0 < number → length xs < 2 ^ 32 → Crosses value rest → Crosses value (refuse_at_bad number is_good xs rest)
  crosses_at_bad {E} number is_good xs rest some few later = go (ltb (first_bad is_good xs) (length xs)) refl
    where
      go :
          (test : Bool) → ltb (first_bad is_good xs) (length xs) ≡ test →
          Crosses value (cond test (refused number (first_bad is_good xs)) rest)
      go true bad = numbered {place = first_bad is_good xs} some (omega (arith, ltb-true (first_bad is_good xs) (length xs) bad))
      go false good = later
