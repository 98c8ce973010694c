-- `signed_butterflies::turn`: the laws of its two sides. Assumes nothing.
use Rattle.signed_butterflies.specs.Held.{Byte, Room}
use Rattle.signed_butterflies.proofs.Sides.{sided, sides_sum_fits, side_negative_fits, sides_difference_fits}
use Rattle.signed_butterflies.proofs.Sides.{sum_gained, difference_gained, sides_turned}
use Rattle.signed_butterflies.proofs.Words.{as_held}
use Rattle.signed_butterflies.proofs.turn.Goals as goal

pub signed-x-requires : goal.signed-x-requires
signed-x-requires c = as_held Byte _ c.ranges.a c.requires.first

pub signed-y-requires : goal.signed-y-requires
signed-y-requires c = as_held Byte _ c.ranges.b c.requires.second

-- the sides, once both are there
pub overflow_add-x : goal.overflow_add-x
overflow_add-x c =
    sides_sum_fits (sided c.ranges.a c.requires.first c.signed-x.ensures) (sided c.ranges.b c.requires.second c.signed-y.ensures)

pub overflow_sub-x : goal.overflow_sub-x
overflow_sub-x c =
    side_negative_fits (sided c.ranges.a c.requires.first c.signed-x.ensures) (sided c.ranges.b c.requires.second c.signed-y.ensures)

pub overflow_sub-x-2 : goal.overflow_sub-x-2
overflow_sub-x-2 c =
    sides_difference_fits (sided c.ranges.a c.requires.first c.signed-x.ensures) (sided c.ranges.b c.requires.second c.signed-y.ensures)

pub butterfly-requires : goal.butterfly-requires
butterfly-requires c =
    let first = sided c.ranges.a c.requires.first c.signed-x.ensures in
    let second = sided c.ranges.b c.requires.second c.signed-y.ensures in
    record {
      state = c.requires.state;
      even = as_held Room _ c.ranges.m0 c.requires.even;
      odd = as_held Room _ c.ranges.m1 c.requires.odd;
      first = sum_gained first second;
      second = difference_gained first second;
    }

pub returns : goal.returns
returns c =
    let first = sided c.ranges.a c.requires.first c.signed-x.ensures in
    let second = sided c.ranges.b c.requires.second c.signed-y.ensures in
    sides_turned first second c.ranges.m0 c.ranges.m1 c.butterfly.ensures
