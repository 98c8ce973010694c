-- How a promise reads an answer that carries a score in f32. Definitions only.
use Rattle.std.specs.Prelude.{◌≡◌, ℕ, Float}
use Rattle.std.specs.Float.{binary32}
use Rattle.std.specs.Float.Ieee.{to_bits}
use Rattle.refusal.specs.Answer.{Said, said_as, door_number}

-- a word's answer with its score's 32 bits
abbrev pub score_bits : Said Float → Said ℕ
score_bits said = said_as (to_bits binary32) said

-- The entry's answer is read by `Says`, the door's as the number of what 01 says.
abbrev pub ScoreNumbers : ℕ → Said Float → Type 0
ScoreNumbers r said = r ≡ door_number (score_bits said)
