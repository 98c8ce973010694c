-- The shift register, of any width: a list of cells, newest first. Definitions only.
use Rattle.std.specs.Prelude.{List, [], ◌∷◌, ℕ, zero, suc, ◌+◌, ◌*◌, ◌%◌, length, get_or, replicate}
use Rattle.binary.specs.Digits.{digits}

-- how many ones the window has under the ones of a tap word, whose digits are written top first
unfoldable pub tapped : List ℕ → List ℕ → ℕ
tapped (d ∷ ds) (c ∷ cs) = d * c + tapped ds cs
tapped [] cs = 0
tapped (d ∷ ds) [] = 0

-- A coded bit is 1 when the count of ones in the masked window is odd. The window is the input and then the register.
unfoldable pub coded_bit : ℕ → List ℕ → ℕ
unfolding digits tapped
coded_bit taps window = tapped (digits (length window) taps) window % 2

-- The register shifts: the input enters at its top, each cell takes what the one above it held, and the oldest leaves.
unfoldable pub shifted : ℕ → List ℕ → List ℕ
shifted b [] = []
shifted b (c ∷ cs) = b ∷ shifted c cs

-- The register after the first t of the inputs. It starts at 0; an input past the end of the list is 0.
unfoldable pub register_after : ℕ → List ℕ → ℕ → List ℕ
unfolding shifted
register_after width inputs zero = replicate width 0
register_after width inputs (suc t) = shifted (get_or inputs t 0) (register_after width inputs t)
