-- `queue::Queue::put_run`. The invariant: still to be put in is the element, once for each turn left. Assumes nothing.
use Prim.Native.Nat.{ℕ, ◌-◌}
use lib.ListN.{replicate}
use Rattle.queue.specs.Records.{ring}
use Rattle.queue.proofs.Turns.{Filling}
use Rattle.queue.proofs.Queue.put_run.Given as goal

abbrev pub invariant-loop : goal.invariant-loop
invariant-loop g l = Filling g.row.ROOM (λ (k : ℕ). replicate k l.fn.element) (ring l.initial.q) l.fn.n (l.fn.n - l.counter) (ring l.q)
