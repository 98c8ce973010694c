-- The place of the first value that a test does not pass, and the refusal at it. Over any kind of value. Definitions
-- only.
use Rattle.std.specs.Prelude.{Bool, cond, not, List, [], ◌∷◌, ◌≡◌, ℕ, zero, suc, ltb, length, position, Option}
use Rattle.refusal.specs.Answer.{Said, refused}

-- the index of the first bad value, and the length where all are good
unfoldable pub first_bad : {E : Type 0} → (E → Bool) → List E → ℕ
first_bad is_good [] = zero
first_bad is_good (x ∷ xs) = cond (is_good x) (suc (first_bad is_good xs)) zero

-- what a search for it answers: its index, and none where all are good
abbrev pub FindsBad : {E : Type 0} → (E → Bool) → List E → Option ℕ → Type 0
FindsBad is_good xs found = found ≡ position (λ x. not (is_good x)) xs

-- refused with a number at the first bad value, where there is one
abbrev pub refuse_at_bad : {E A : Type 0} → ℕ → (E → Bool) → List E → Said A → Said A
refuse_at_bad number is_good xs rest =
    cond (ltb (first_bad is_good xs) (length xs)) (refused number (first_bad is_good xs)) rest
