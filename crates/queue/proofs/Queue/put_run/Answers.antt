-- `queue::Queue::put_run`: one turn of its loop, as `Turns` has it. Assumes nothing.
use mathlib.Core.Path.{refl}
use native.Mathlib.Omega.{arith}
use Rattle.queue.proofs.Turns.{filling_goes_on, filling_ends}
use Rattle.queue.proofs.Queue.put_run.Goals as goal

pub loop-preserved : goal.loop-preserved
loop-preserved g c = filling_goes_on c.loop.invariant (omega arith) refl c.add.ensures

pub returns : goal.returns
returns g c = filling_ends c.loop.invariant (omega arith) refl
