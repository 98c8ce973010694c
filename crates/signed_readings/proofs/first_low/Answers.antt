-- `signed_readings::first_low`: a search from the front. Assumes nothing.
use native.Mathlib.Omega.{arith}
use Rattle.signed_readings.proofs.Low.{low_sought_starts, none_low, low_here, low_sought_goes_on}
use Rattle.signed_readings.proofs.first_low.Goals as goal

pub loop-i-init : goal.loop-i-init
loop-i-init c = low_sought_starts

pub returns-then-reading-ltminus127 : goal.returns-then-reading-ltminus127
returns-then-reading-ltminus127 c =
    low_here c.loop-i.invariant (omega arith) (search) (search)

pub loop-i-preserved : goal.loop-i-preserved
loop-i-preserved c =
    low_sought_goes_on c.loop-i.invariant (omega arith) (search) (search)

pub returns : goal.returns
returns c = none_low c.loop-i.invariant (omega arith)
