-- What a place reads: by the tests of a decoder's code, and from a list that is cut off behind what is read. The default of a
-- read, d, is not seen. Assumes nothing.
use mathlib.Core.Bool.{Bool, true, false}
use mathlib.Core.List.{List, [], ◌∷◌}
use mathlib.Core.Path.{◌≡◌, refl, sym, ap, ◌∙◌}
use Prim.Native.Nat.{ℕ, zero, suc, ◌+◌, ◌≤◌, ◌<◌}
use native.Mathlib.Omega.{arith}
use borrow.Author.Tests.{eq-eqb, ne_eqb}
use lib.Dec.{eqb}
use lib.ListN.{length, get_or, take}
use Rattle.trellis.specs.Keep.{Keep, Pattern, keeps0, keeps1, coded_length}
use Rattle.trellis.specs.Places.{received, missing, value_of, reading_at, filled, place0, place1}
use Rattle.trellis.proofs.Kept.{one, coded_suc}

-- ---- the reading of a number

pub reading_received :
    {A : Type 0} (d : A) (readings : List A) (n : ℕ) → n < length readings → reading_at readings n ≡ received (get_or readings n d)
unfolding reading_at
reading_received d [] n h = absurd (omega (arith, h))
reading_received d (x ∷ xs) zero h = refl
reading_received d (x ∷ xs) (suc n) h = reading_received d xs n (omega arith)

pub reading_missing : {A : Type 0} (readings : List A) (n : ℕ) → length readings ≤ n → reading_at readings n ≡ missing
unfolding reading_at
reading_missing [] n h = refl
reading_missing (x ∷ xs) zero h = absurd (omega (arith, h))
reading_missing (x ∷ xs) (suc n) h = reading_missing xs n (omega arith)

-- past the end a kept place reads the zero
pub reading_value :
    {A : Type 0} (nought : A) (readings : List A) (n : ℕ) → value_of nought (reading_at readings n) ≡ get_or readings n nought
unfolding reading_at
reading_value nought [] n = refl
reading_value nought (x ∷ xs) zero = refl
reading_value nought (x ∷ xs) (suc n) = reading_value nought xs n

reading_taken : {A : Type 0} (readings : List A) (n i : ℕ) → i < n → reading_at (take n readings) i ≡ reading_at readings i
unfolding reading_at
reading_taken readings zero i h = absurd (omega (arith, h))
reading_taken [] (suc n) i h = refl
reading_taken (x ∷ xs) (suc n) zero h = refl
reading_taken (x ∷ xs) (suc n) (suc i) h = reading_taken xs n i (omega arith)

-- ---- what a place reads, by the tests of the code

module _ {A : Type 0} (nought : A) (column : ℕ) (readings : List A) (at : ℕ) where
  abbrev reads : Bool → A
  reads kept = value_of nought (filled kept readings at)

  pub reads_received : (d : A) → column ≡ 1 → at < length readings → get_or readings at d ≡ reads (eqb column 1)
  reads_received d e h = sym (ap (value_of nought) (reading_received d readings at h)) ∙ ap reads (sym (eq-eqb column 1 e))

  pub reads_missing : column ≡ 1 → length readings ≤ at → nought ≡ reads (eqb column 1)
  reads_missing e h = sym (ap (value_of nought) (reading_missing readings at h)) ∙ ap reads (sym (eq-eqb column 1 e))

  -- kept, it is received or missing
  pub reads_kept : column ≡ 1 → get_or readings at nought ≡ reads (eqb column 1)
  reads_kept e = sym (reading_value nought readings at) ∙ ap reads (sym (eq-eqb column 1 e))

  pub reads_deleted : (column ≡ 1 → ⊥) → nought ≡ reads (eqb column 1)
  reads_deleted e = ap reads (sym (ne_eqb column 1 e))

-- ---- a step reads no further than the coded length of the steps up to it

filled_taken :
    {A : Type 0} (kept : Bool) (readings : List A) (n i : ℕ) → i + one kept ≤ n → filled kept (take n readings) i ≡ filled kept readings i
filled_taken false readings n i h = refl
filled_taken true readings n i h = reading_taken readings n i (omega arith)

module _ {A : Type 0} (p : Keep) (good : Pattern p) (readings : List A) (n t : ℕ) (enough : coded_length p (suc t) ≤ n) where
  pub place0_taken : place0 p (take n readings) t ≡ place0 p readings t
  unfolding place0
  place0_taken = filled_taken (keeps0 p t) readings n (coded_length p t) (omega (arith, coded_suc p good t))

  pub place1_taken : place1 p (take n readings) t ≡ place1 p readings t
  unfolding place1
  place1_taken = filled_taken (keeps1 p t) readings n (coded_length p t + one (keeps0 p t)) (omega (arith, coded_suc p good t))
