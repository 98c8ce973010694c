-- `queue::Queue::put_word`: one turn of its loop, as `Turns` has it. Assumes nothing.
use mathlib.Core.Path.{refl}
use native.Mathlib.Omega.{arith}
use Rattle.binary.specs.Digits.{digits}
use Rattle.queue.proofs.Turns.{filling_goes_on, filling_ends}
use Rattle.queue.proofs.Queue.put_word.Goals as goal

pub loop-place-preserved : goal.loop-place-preserved
unfolding digits
loop-place-preserved g c = filling_goes_on c.loop-place.invariant (omega arith) refl c.add.ensures

pub returns : goal.returns
unfolding digits
returns g c = filling_ends c.loop-place.invariant (omega arith) refl
