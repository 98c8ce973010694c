-- What each place of the trellis reads: readings, of any kind, fill the kept places in order. Definitions only.
use Rattle.std.specs.Prelude.{Bool, cond, List, [], ◌∷◌, ℕ, zero, suc, ◌+◌}
use Rattle.trellis.specs.Keep.{Keep, keeps0, keeps1, coded_length}

-- a place's reading was received, is missing, or was deleted
pub data Place (A : Type 0) : Type 0 where
  received : A → Place A
  missing : Place A
  deleted : Place A

-- deleted and missing places read the readings' zero
abbrev pub value_of : {A : Type 0} → A → Place A → A
value_of nought (received x) = x
value_of nought missing = nought
value_of nought deleted = nought

-- the reading of a number, counted from 0, if there is one
unfoldable pub reading_at : {A : Type 0} → List A → ℕ → Place A
reading_at [] n = missing
reading_at (x ∷ xs) zero = received x
reading_at (x ∷ xs) (suc n) = reading_at xs n

-- a kept place has the reading of its number among the kept ones
abbrev pub filled : {A : Type 0} → Bool → List A → ℕ → Place A
filled kept readings n = cond kept (reading_at readings n) deleted

-- the places of step t
unfoldable pub place0 : {A : Type 0} → Keep → List A → ℕ → Place A
unfolding coded_length reading_at
place0 p readings t = filled (keeps0 p t) readings (coded_length p t)

unfoldable pub place1 : {A : Type 0} → Keep → List A → ℕ → Place A
unfolding coded_length reading_at
place1 p readings t = filled (keeps1 p t) readings (coded_length p t + cond (keeps0 p t) 1 0)
