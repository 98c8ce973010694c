-- Binary digits as a list, top first, as they are written. Definitions only.
use Rattle.std.specs.Prelude.{List, [], ◌∷◌, ℕ, zero, suc, ◌+◌, ◌*◌, ◌/◌, ◌%◌, ◌^◌, length}

-- the k lowest binary digits of a number: of 0b10101 the five are 1 0 1 0 1
unfoldable pub digits : ℕ → ℕ → List ℕ
digits zero n = []
digits (suc k) n = n / 2 ^ k % 2 ∷ digits k n

-- the number that a list of bits makes
unfoldable pub value : List ℕ → ℕ
value [] = 0
value (c ∷ cs) = c * 2 ^ length cs + value cs
