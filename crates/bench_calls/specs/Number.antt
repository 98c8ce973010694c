-- Answers as one number: a symbol's, and a looked-up byte. Definitions only.
use Rattle.std.specs.Prelude.{List, [], ◌∷◌, ◌≡◌, ℕ}
use Rattle.refusal.specs.Answer.{Said, accepted, refused, door_number}

-- the bit, or 2 where there is none
abbrev pub bit_or_two : Said (List ℕ) → Said ℕ
bit_or_two (accepted []) = accepted 2
bit_or_two (accepted (b ∷ bs)) = accepted b
bit_or_two (refused number place) = refused number place

abbrev pub emitted_number : Said (List ℕ) → ℕ
emitted_number said = door_number (bit_or_two said)

-- how a promise reads such a number
abbrev pub EmitNumbers : ℕ → Said (List ℕ) → Type 0
EmitNumbers r said = r ≡ emitted_number said

-- a looked-up byte, or 256 where there is none
abbrev pub letter_number : List ℕ → ℕ
letter_number [] = 256
letter_number (b ∷ bs) = b
