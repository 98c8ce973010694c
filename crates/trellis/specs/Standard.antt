-- What ETSI EN 300 744 says is transmitted, by its table of puncturing patterns (4.3.3), and what it is for a code to
-- follow it. Definitions only.
use Rattle.std.specs.Prelude.{List, [], ◌∷◌, map, ◌≡◌, ℕ, ◌+◌}
use Rattle.trellis.specs.Keep.{Keep, period, kept_through}
use Rattle.trellis.specs.Choice.{k7, Coding}

-- A coded bit by the standard's name: X is G0's (octal 171), Y is G1's (octal 133), each with the number of its input
-- bit, from 1 on.
pub data Output : Type 0 where
  X : ℕ → Output
  Y : ℕ → Output

-- the sequences that are transmitted, by the numbers of the rates
abbrev pub transmitted : List (List Output)
transmitted =
    (X 1 ∷ Y 1 ∷ [])
    ∷ (X 1 ∷ Y 1 ∷ Y 2 ∷ [])
    ∷ (X 1 ∷ Y 1 ∷ Y 2 ∷ X 3 ∷ [])
    ∷ (X 1 ∷ Y 1 ∷ Y 2 ∷ X 3 ∷ Y 4 ∷ X 5 ∷ [])
    ∷ (X 1 ∷ Y 1 ∷ Y 2 ∷ Y 3 ∷ Y 4 ∷ X 5 ∷ Y 6 ∷ X 7 ∷ [])
    ∷ []

-- what a keep pattern keeps of the steps of one period
abbrev pub kept_in_period : Keep → List Output
kept_in_period p = kept_through p (λ (u : ℕ). X (u + 1)) (λ (u : ℕ). Y (u + 1)) (period p)

-- the standard's tap words, and at each rate the sequence that it says is transmitted
pub record Follows (coding : Coding) : Type 0 where
  pub taps : coding.code ≡ k7
  pub sequences : map kept_in_period coding.patterns ≡ transmitted

-- the number of the code that follows it
abbrev pub standard_code : ℕ
standard_code = 2
