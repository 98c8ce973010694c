-- The code number that is said to follow EN 300 744 does, by computing what its keep patterns keep. Assumes nothing.
use mathlib.Core.Path.{refl}
use Rattle.trellis.specs.Choice.{coding_of}
use Rattle.trellis.specs.Keep.{kept_through}
use Rattle.trellis.specs.Standard.{Follows, standard_code}

pub standard_transmits : Follows (coding_of standard_code)
unfolding coding_of kept_through
standard_transmits = record { taps = refl; sequences = refl }
