-- A line's text is within its room. Assumes nothing.
use Rattle.std.proofs.Common.{◌≤◌, ℕ, List, [], ◌∷◌, length, lit≤}
use Rattle.std.proofs.lemmas.List.{length-map}
use Rattle.line.specs.Line.{most_info}
use Rattle.text.specs.Text.{bit_text, word_text}

-- a word's text is no longer than the longest word
pub text_few : (bits : List ℕ) → length bits ≤ most_info → length (word_text bits) ≤ most_info
text_few [] h = lit≤ tt
text_few (b ∷ bits) h = rw (length-map (b ∷ bits) bit_text) h
