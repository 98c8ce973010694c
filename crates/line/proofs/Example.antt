-- Document 01's example: its eight bytes give its whole output, by computing the definitions. Assumes nothing.
use mathlib.Core.List.{[], ◌∷◌}
use mathlib.Core.Path.{◌≡◌, refl}
use lib.Count.{ones}
use lib.Ieee.{of_bits, to_bits, sub, le}
use Rattle.f32s.specs.Single.{all_of_bytes}
use Rattle.refusal.specs.First.{first_bad}
use Rattle.trellis.specs.Choice.{code_of, pattern_of, rates_of}
use Rattle.trellis.specs.Keep.{keeps_by}
use Rattle.trellis.specs.State.{next_state}
use Rattle.line.specs.Line.{output}

-- 00 00 01 00 00 00 80 BF give `word 1 score 3F800000` and a newline
pub example :
    output (0 ∷ 0 ∷ 1 ∷ 0 ∷ 0 ∷ 0 ∷ 128 ∷ 191 ∷ [])
    ≡ 119 ∷ 111 ∷ 114 ∷ 100 ∷ 32 ∷ 49 ∷ 32 ∷ 115 ∷ 99 ∷ 111 ∷ 114 ∷ 101 ∷ 32 ∷ 51 ∷ 70 ∷ 56 ∷ 48 ∷ 48 ∷ 48 ∷ 48 ∷ 48 ∷ 10 ∷ []
unfolding output all_of_bytes first_bad code_of pattern_of rates_of keeps_by next_state ones of_bits to_bits sub le
example = refl
