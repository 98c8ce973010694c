-- The bits of a whole score, and how a promise reads an answer that carries one. Definitions only.
use Rattle.std.specs.Prelude.{cond, ◌≡◌, ℕ, suc, ◌-◌, ◌^◌, ltb, ℤ, pos, negsuc}
use Rattle.refusal.specs.Answer.{Said, said_as, door_number}

-- the 32 bits of a number in two's complement: the number itself, or where it is below 0, 2^32 more
unfoldable pub twos_complement : ℤ → ℕ
twos_complement (pos n) = n
twos_complement (negsuc n) = 2 ^ 32 - suc n

-- those bits as the host reads them: below 2^31 they are the number, else it is 2^32 less
unfoldable pub read_signed : ℕ → ℤ
read_signed n = cond (ltb n (2 ^ 31)) (pos n) (negsuc (2 ^ 32 - suc n))

-- a word's answer with its score's 32 bits
abbrev pub score_bits : Said ℤ → Said ℕ
score_bits said = said_as twos_complement said

-- The entry's answer is read by `Says`, the door's as the number of what the rules say.
abbrev pub ScoreNumbers : ℕ → Said ℤ → Type 0
ScoreNumbers r said = r ≡ door_number (score_bits said)
