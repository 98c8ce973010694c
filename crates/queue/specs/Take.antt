-- Taking out of a queue of `cap` elements. Definitions only.
use Rattle.std.specs.Prelude.{cond, List, [], ◌∷◌, ℕ, eqb}
use Rattle.queue.specs.Ring.{Ring, read_as, front, rest}

-- its front, or nothing where it is empty
unfoldable pub taken : ℕ → Ring → List ℕ
taken cap q = cond (eqb (read_as cap q).count 0) [] (front (read_as cap q) ∷ [])

-- the queue without it; as it came where it is empty
unfoldable pub left : ℕ → Ring → Ring
left cap q = cond (eqb (read_as cap q).count 0) q (rest cap (read_as cap q))
