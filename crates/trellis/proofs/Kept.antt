-- Kept places: as many as document 01's formula says, for any keep pattern, whatever stands at them. Assumes nothing.
use mathlib.Core.Bool.{Bool, true, false, cond}
use mathlib.Core.List.{List, [], ◌∷◌}
use mathlib.Core.Logic.{⊎_elim}
use mathlib.Core.Path.{◌≡◌, refl, sym, ap, ap₂, subst, ◌∙◌}
use Prim.Native.Nat.{ℕ, zero, suc, ◌+◌, ◌*◌, ◌/◌, ◌%◌, ◌≤◌, ◌<◌}
use native.Mathlib.Nat.{le_refl, mul-add, suc-mul, mod-lt, div-add-mod', eq-or-lt_of_le}
use native.Mathlib.Decide.{le_ind}
use native.Mathlib.Omega.{arith}
use lib.Arith.{digits_div, digits_mod}
use lib.Dec.{eqb}
use lib.ListN.{length, get_or, take, length-append}
use lib.Seq.{take_all, take-nil}
use Rattle.trellis.specs.Keep.{Keep, Pattern, period, keeps_by, keeps0, keeps1, only_if}
use Rattle.trellis.specs.Keep.{kept_of, kept_through, kept_places, ones_of, coded_length}

-- ---- one row

abbrev pub one : Bool → ℕ
one b = cond b 1 0

one-le : (b : Bool) → one b ≤ 1
one-le true = omega arith
one-le false = omega arith

-- how many of the first t steps a row keeps
kept_in : List ℕ → ℕ → ℕ
kept_in row zero = 0
kept_in row (suc t) = kept_in row t + one (keeps_by row t)

-- one column more; a column past the end keeps nothing
pub ones-take_suc : (row : List ℕ) (j : ℕ) → ones_of (take (suc j) row) ≡ ones_of (take j row) + one (eqb (get_or row j 0) 1)
unfolding ones_of
ones-take_suc [] j = rw (take-nil j)
ones-take_suc (x ∷ row) zero = omega arith
ones-take_suc (x ∷ row) (suc j) = omega (arith, ones-take_suc row j)

module _ (row : List ℕ) (some : 0 < length row) where
  abbrev n : ℕ
  n = length row

  -- whole turns q of the row, and r columns begun
  abbrev Formula : ℕ → ℕ → ℕ
  Formula q r = q * ones_of row + ones_of (take r row)

  one_more : (q r : ℕ) → Formula q r + one (eqb (get_or row r 0) 1) ≡ Formula q (suc r)
  one_more q r = omega (arith, ones-take_suc row r)

  row_done : (q r : ℕ) → suc r ≡ n → Formula q (suc r) ≡ Formula (suc q) 0
  unfolding ones_of
  row_done q r e = omega (arith, suc-mul q (ones_of row), ap ones_of (take_all (suc r) row (omega arith)))

  -- the quotient and the rest of a number that is put together of them
  at : (t q r : ℕ) → r < n → t ≡ q * n + r → Formula q r ≡ Formula (t / n) (t % n)
  at t q r h e = ap₂ Formula (sym (digits_div q h) ∙ ap (λ (m : ℕ). m / n) (sym e)) (sym (digits_mod q h) ∙ ap (λ (m : ℕ). m % n) (sym e))

  step : (t q r : ℕ) → r < n → t ≡ q * n + r → Formula q (suc r) ≡ Formula (suc t / n) (suc t % n)
  step t q r h e =
      ⊎_elim
      (λ (last : suc r ≡ n). row_done q r last ∙ at (suc t) (suc q) 0 some (omega (arith, suc-mul q n)))
      (λ (inner : suc r < n). at (suc t) q (suc r) inner (omega arith))
      (eq-or-lt_of_le h)

  kept_formula : (t : ℕ) → kept_in row t ≡ Formula (t / n) (t % n)
  unfolding kept_in keeps_by ones_of
  kept_formula zero = let none : 0 ≡ Formula 0 0 = omega arith in none ∙ at 0 0 0 some (omega arith)
  kept_formula (suc t) =
      ap (λ (m : ℕ). m + one (keeps_by row t)) (kept_formula t) ∙ one_more (t / n) (t % n)
      ∙ step t (t / n) (t % n) (mod-lt t some) (sym (div-add-mod' t n))

-- ---- both rows

pub length-only : {A : Type 0} (b : Bool) (x : A) → length (only_if b x) ≡ one b
length-only true x = refl
length-only false x = refl

pub length-kept_of : {A : Type 0} (p : Keep) (t : ℕ) (x y : A) → length (kept_of p t x y) ≡ one (keeps0 p t) + one (keeps1 p t)
unfolding kept_of
length-kept_of p t x y =
    length-append (only_if (keeps0 p t) x) (only_if (keeps1 p t) y) ∙ ap₂ ◌+◌ (length-only (keeps0 p t) x) (length-only (keeps1 p t) y)

length-rows : {A : Type 0} (p : Keep) (x y : ℕ → A) (t : ℕ) → length (kept_through p x y t) ≡ kept_in p.row0 t + kept_in p.row1 t
unfolding kept_through kept_in
length-rows p x y zero = refl
length-rows p x y (suc t) =
    omega (arith, length-append (kept_through p x y t) (kept_of p t (x t) (y t)), length-rows p x y t, length-kept_of p t (x t) (y t))

-- the coded length is the number of kept places, whatever stands at them
pub length-kept : {A : Type 0} (p : Keep) → Pattern p → (x y : ℕ → A) (t : ℕ) → length (kept_through p x y t) ≡ coded_length p t
unfolding coded_length
length-kept p good x y t =
    let upper = kept_formula p.row0 good.some t in
    let lower = kept_formula p.row1 (subst (λ (n : ℕ). 0 < n) (sym good.equal) good.some) t in
    let same : kept_in p.row1 t ≡ t / period p * ones_of p.row1 + ones_of (take (t % period p) p.row1) =
    lower ∙ ap (λ (n : ℕ). t / n * ones_of p.row1 + ones_of (take (t % n) p.row1)) good.equal in
    omega (arith, length-rows p x y t, upper, same, mul-add (t / period p) (ones_of p.row0) (ones_of p.row1))

pub length-places : (p : Keep) → Pattern p → (t : ℕ) → length (kept_places p t) ≡ coded_length p t
unfolding kept_places
length-places p good t = length-kept p good _ _ t

-- one step more: its kept places are added
pub coded_suc : (p : Keep) → Pattern p → (t : ℕ) → coded_length p (suc t) ≡ coded_length p t + (one (keeps0 p t) + one (keeps1 p t))
unfolding kept_through
coded_suc p good t =
    let zeros : ℕ → ℕ = λ (u : ℕ). 0 in
    sym (length-kept p good zeros zeros (suc t)) ∙ length-append (kept_through p zeros zeros t) (kept_of p t 0 0)
    ∙ ap₂ ◌+◌ (length-kept p good zeros zeros t) (length-kept_of p t 0 0)

pub coded_mono : (p : Keep) → Pattern p → (t u : ℕ) → t ≤ u → coded_length p t ≤ coded_length p u
coded_mono p good t u h =
    le_ind (λ (v : ℕ). coded_length p t ≤ coded_length p v) (le_refl (coded_length p t))
    (λ v g k. omega (arith, coded_suc p good v)) u h

-- at most two bits to a step
pub coded_le : (p : Keep) → Pattern p → (t : ℕ) → coded_length p t ≤ 2 * t
unfolding kept_places kept_through
coded_le p good zero = omega (arith, length-places p good 0)
coded_le p good (suc t) = omega (arith, coded_suc p good t, coded_le p good t, one-le (keeps0 p t), one-le (keeps1 p t))
