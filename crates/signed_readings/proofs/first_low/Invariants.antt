-- `signed_readings::first_low`: a search from the front. Assumes nothing.
use Rattle.signed_readings.proofs.Low.{LowSought}
use Rattle.signed_readings.proofs.first_low.Given as goal

abbrev pub invariant-loop-i : goal.invariant-loop-i
invariant-loop-i l = LowSought l.readings l.i
