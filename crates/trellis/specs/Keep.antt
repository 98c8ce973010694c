-- Keep patterns: two equally long rows, G0's and G1's, of at least one column. Step t uses column t mod period; a 1
-- keeps a coded bit, a 0 deletes it. Definitions only.
use Rattle.std.specs.Prelude.{Bool, true, false, cond, List, [], ◌∷◌, ◌++◌, length, get_or, take}
use Rattle.std.specs.Prelude.{◌≡◌, ℕ, zero, suc, ◌+◌, ◌*◌, ◌/◌, ◌%◌, ◌<◌, eqb}

pub record Keep : Type 0 where
  pub row0 : List ℕ
  pub row1 : List ℕ

abbrev pub period : Keep → ℕ
period p = length p.row0

-- two equally long rows of at least one column
pub record Pattern (p : Keep) : Type 0 where
  pub some : 0 < period p
  pub equal : length p.row1 ≡ period p

-- does step t keep its bit, by the row of that bit
unfoldable pub keeps_by : List ℕ → ℕ → Bool
keeps_by row t = eqb (get_or row (t % length row) 0) 1

abbrev pub keeps0 : Keep → ℕ → Bool
keeps0 p t = keeps_by p.row0 t

abbrev pub keeps1 : Keep → ℕ → Bool
keeps1 p t = keeps_by p.row1 t

abbrev pub only_if : {A : Type 0} → Bool → A → List A
only_if true x = x ∷ []
only_if false x = []

-- of two things, one for each place of step t, those whose place is kept, G0's first
unfoldable pub kept_of : {A : Type 0} → Keep → ℕ → A → A → List A
unfolding keeps_by
kept_of p t x y = only_if (keeps0 p t) x ++ only_if (keeps1 p t) y

-- the same over the first t steps, in order: step u has x u at G0's place and y u at G1's
unfoldable pub kept_through : {A : Type 0} → Keep → (ℕ → A) → (ℕ → A) → ℕ → List A
unfolding kept_of
kept_through p x y zero = []
kept_through p x y (suc t) = kept_through p x y t ++ kept_of p t (x t) (y t)

-- The kept places of the first t steps, in order. Step u has the place 2u for G0's bit, and 2u + 1 for G1's.
unfoldable pub kept_places : Keep → ℕ → List ℕ
unfolding kept_through
kept_places p t = kept_through p (λ (u : ℕ). 2 * u) (λ (u : ℕ). 2 * u + 1) t

-- the ones of a row
unfoldable pub ones_of : List ℕ → ℕ
ones_of [] = 0
ones_of (x ∷ xs) = cond (eqb x 1) 1 0 + ones_of xs

-- The coded length of t steps: whole periods times the ones in both rows, plus the ones in the columns begun.
unfoldable pub coded_length : Keep → ℕ → ℕ
unfolding ones_of
coded_length p t =
    t / period p * (ones_of p.row0 + ones_of p.row1)
    + (ones_of (take (t % period p) p.row0) + ones_of (take (t % period p) p.row1))
