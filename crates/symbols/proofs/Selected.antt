-- The code that the entries run is K5, of as many states as the step is for. Assumes nothing.
use mathlib.Core.Path.{◌≡◌, refl}
use lib.Dec.{lit≤}
use Rattle.trellis.specs.declared.ConvCode.{ConvCode}
use Rattle.trellis.specs.Choice.{k5, code_of}
use Rattle.trellis.specs.Inner.{Halved}
use Rattle.trellis.proofs.Chosen.{code_narrow, code_ends}
use Rattle.symbols.specs.Inner.{half}

pub chosen_k5 : {code : ConvCode} → code ≡ code_of 0 → code ≡ k5
unfolding code_of
chosen_k5 e = e

pub k5_halved : Halved k5 half
unfolding code_of
k5_halved = record { held = code_narrow 0; few = lit≤ tt; halved = refl; ends = code_ends 0 }
