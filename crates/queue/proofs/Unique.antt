-- Of each function, any two outcomes that its contract allows are equal, of a queue of any room. `Post` is the contract: of what the call
-- is given, what it returns, and what it leaves in each argument. `ring` tells two queues apart, field by field. Assumes nothing.
use mathlib.Core.Path.{◌≡◌, sym, ap, ◌∙◌}
use Prim.Native.Nat.{ℕ}
use Rattle.std.specs.Prelude.{Option, Some, None}
use Rattle.queue.specs.declared.Queue.{Queue}
use Rattle.queue.specs.Records.{ring, taken_said}
use Rattle.queue.specs.Ring.{Ring}
use Rattle.queue.proofs.Queue.new.Reads as new
use Rattle.queue.proofs.Queue.read.Reads as read
use Rattle.queue.proofs.Queue.put.Reads as put
use Rattle.queue.proofs.Queue.put_run.Reads as put_run
use Rattle.queue.proofs.Queue.put_word.Reads as put_word
use Rattle.queue.proofs.Queue.front.Reads as front
use Rattle.queue.proofs.Queue.rest.Reads as rest
use Rattle.queue.proofs.Queue.take.Reads as take

module _ {room : ℕ} where
  abbrev queue_of : Ring → Queue room
  queue_of q = record { slots = q.slots; head = q.head; count = q.count }

  pub ring_told : (q q' : Queue room) → ring q ≡ ring q' → q ≡ q'
  ring_told q q' = ap queue_of

-- what is taken out is fixed by what is said of it
pub taken_told : (a b : Option ℕ) → taken_said a ≡ taken_said b → a ≡ b
taken_told (Some u) (Some v) e = cc
taken_told (Some u) None e = cc
taken_told None (Some v) e = cc
taken_told None None e = cc

module _ (room : ℕ) (fits : _) (κs : _) where
  pub new_determined :
      (given : _) (r r' : Queue room) (left left' : _) → new.Post room fits κs given r left → new.Post room fits κs given r' left' → r ≡ r'
  new_determined given r r' left left' p q = ring_told r r' (p ∙ sym q)

  pub read_determined :
      (given : _) (r r' : Queue room) (left left' : _) →
      read.Post room fits κs given r left → read.Post room fits κs given r' left' → r ≡ r'
  read_determined given r r' left left' p q = ring_told r r' (p ∙ sym q)

  pub put_determined :
      (given : _) (r r' : Queue room) (left left' : _) →
      put.Post room fits κs given r left → put.Post room fits κs given r' left' → r ≡ r'
  put_determined given r r' left left' p q = ring_told r r' (p ∙ sym q)

  pub put_run_determined :
      (given : _) (r r' : Queue room) (left left' : _) →
      put_run.Post room fits κs given r left → put_run.Post room fits κs given r' left' → r ≡ r'
  put_run_determined given r r' left left' p q = ring_told r r' (p ∙ sym q)

  pub put_word_determined :
      (given : _) (r r' : Queue room) (left left' : _) →
      put_word.Post room fits κs given r left → put_word.Post room fits κs given r' left' → r ≡ r'
  put_word_determined given r r' left left' p q = ring_told r r' (p ∙ sym q)

  pub rest_determined :
      (given : _) (r r' : Queue room) (left left' : _) →
      rest.Post room fits κs given r left → rest.Post room fits κs given r' left' → r ≡ r'
  rest_determined given r r' left left' p q = ring_told r r' (p ∙ sym q)

  pub front_determined :
      (given : _) (r r' : ℕ) (left left' : _) → front.Post room fits κs given r left → front.Post room fits κs given r' left' → r ≡ r'
  front_determined given r r' left left' p q = p ∙ sym q

  -- the element, and the queue that is left
  pub take_determined :
      (given : _) (r r' : Option ℕ) (left left' : _) →
      take.Post room fits κs given r left → take.Post room fits κs given r' left' → (r ≡ r') × (left.0.now ≡ left'.0.now)
  take_determined given r r' left left' p q =
      (taken_told r r' (p.0 ∙ sym q.0), ring_told left.0.now left'.0.now (p.1 ∙ sym q.1))
