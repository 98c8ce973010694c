-- A kind of decoder of readings, and how it holds its metrics: as numbers that stand for those of the definitions, with
-- room for what is added. Definitions only.
use Rattle.std.specs.Prelude.{◌≡◌, ℕ, ◌*◌, ◌≤◌}
use Rattle.best_path.specs.Pair.{Held}
use Rattle.correlation.specs.Arithmetic.{Arithmetic, Kind}
use Rattle.correlation.proofs.Sides.{Lawful}

-- N is the type of the numbers
pub record Holding (N : Type 0) : Type 1 where
  -- the numbers, and what a pair of states leads to by them
  pub pair : Held N
  -- how readings are added, and what state 0 starts at
  pub on : Arithmetic N
  pub first : pair.Value
  -- what is asked of each reading that is used
  pub Asked : N → Type 0

-- what it is a decoder of
abbrev pub kind_of : {N : Type 0} → (held : Holding N) → Kind N held.pair.Value
kind_of held = record { on = held.on; op = held.pair.op; first = held.first }

-- what a decoder shows of it: mark is held by a state that is not reached, first by state 0 at the start; and 65,536
-- steps take no number so far that there is no room for one more
pub record Sound {N : Type 0} (held : Holding N) (mark first : N) : Type 0 where
  pub lawful : Lawful held.on
  pub zero_asked : held.Asked held.on.zero
  pub of_mark : held.pair.value mark ≡ held.pair.op.mark
  pub of_first : held.pair.value first ≡ held.first
  pub mark_near : held.pair.Near 0 mark
  pub first_near : held.pair.Near 0 first
  pub nearer : (bound more : ℕ) → bound ≤ more → (x : N) → held.pair.Near bound x → held.pair.Near more x
  pub room : held.pair.reach * 65536 ≤ held.pair.limit
