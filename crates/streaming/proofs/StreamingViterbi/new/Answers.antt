-- `StreamingViterbi::new`: state 0 at 0.0, the others at the mark, and zeros. Assumes nothing.
use mathlib.Core.Path.{refl}
use lib.Ieee.{of_bits}
use Rattle.streaming.specs.Stream.{fresh}
use Rattle.streaming.proofs.StreamingViterbi.new.Goals as goal

pub returns : goal.returns
unfolding of_bits fresh
returns c = record { state = refl }
