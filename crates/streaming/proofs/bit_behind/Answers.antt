-- `streaming::bit_behind`: from the first least state, the lag back, and its top bit. Assumes nothing.
use native.Mathlib.Omega.{arith}
use Rattle.streaming.proofs.Behind.{least_is_state, bit_behind_lem}
use Rattle.streaming.proofs.bit_behind.Goals as goal

pub state_behind-requires : goal.state_behind-requires
state_behind-requires c =
    record { row_kept = omega arith; state_known = omega (arith, least_is_state _ c.first_least-least.ensures) }

pub returns : goal.returns
returns c =
    bit_behind_lem _ c.first_least-least.ensures c.state_behind.ensures c.top_bit.ensures
