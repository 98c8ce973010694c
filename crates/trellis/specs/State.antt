-- The register as a number, its newest cell the top bit: what the code computes with. Definitions only.
use Rattle.std.specs.Prelude.{List, ℕ, zero, suc, ◌+◌, ◌-◌, ◌*◌, ◌/◌, ◌%◌, ◌^◌, get_or}
use Rattle.std.specs.Int.Bits.{bit_and}
use Rattle.std.specs.Int.Count.{ones}
use Rattle.trellis.specs.declared.ConvCode.{ConvCode}

-- the input bit above the register
abbrev pub window : ConvCode → ℕ → ℕ → ℕ
window code s b = b * 2 ^ code.width + s

-- 1 when the count of ones in the masked window is odd
unfoldable pub parity_of : ℕ → ℕ → ℕ
parity_of taps w = ones (bit_and w taps) % 2

-- The register shifts right and the input enters at its top.
unfoldable pub next_state : ConvCode → ℕ → ℕ → ℕ
next_state code s b = s / 2 + b * 2 ^ (code.width - 1)

-- the state after the first t of the inputs
unfoldable pub state_after : ConvCode → List ℕ → ℕ → ℕ
unfolding next_state
state_after code inputs zero = 0
state_after code inputs (suc t) = next_state code (state_after code inputs t) (get_or inputs t 0)
