-- `queue::Queue::put_word`. The invariant: still to be put in are the word's lowest digits, one for each turn left. Assumes nothing.
use Prim.Native.Nat.{ℕ}
use Rattle.binary.specs.Digits.{digits}
use Rattle.queue.specs.Records.{ring}
use Rattle.queue.proofs.Turns.{Filling}
use Rattle.queue.proofs.Queue.put_word.Given as goal

abbrev pub invariant-loop-place : goal.invariant-loop-place
invariant-loop-place g l = Filling g.row.ROOM (λ (k : ℕ). digits k l.fn.word) (ring l.initial.q) l.fn.len l.place (ring l.q)
