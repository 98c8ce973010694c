-- A queue as the code holds it, as a ring, and what is taken out of one. Definitions only.
use Rattle.std.specs.Prelude.{List, [], ◌∷◌, ℕ, Option, Some, None}
use Rattle.queue.specs.declared.Queue.{Queue}
use Rattle.queue.specs.Ring.{Ring}

abbrev pub ring : {room : ℕ} → Queue room → Ring
ring q = record { slots = q.slots; head = q.head; count = q.count }

-- the element that was taken out, if there was one
abbrev pub taken_said : Option ℕ → List ℕ
taken_said (Some v) = v ∷ []
taken_said None = []
