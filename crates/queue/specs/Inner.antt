-- What the functions on queues ask. Definitions only.
use Rattle.std.specs.Prelude.{ℕ, ◌+◌, ◌^◌, ◌≤◌, ◌<◌}
use Rattle.queue.specs.Ring.{Ring}

-- how many elements an array may take: one at least, and so few that the sum of a head and a count is a `usize`
pub record Size (cap : ℕ) : Type 0 where
  pub some : 0 < cap
  pub sums : cap + cap < 2 ^ 64

-- within the array, with room for n more
pub record Room (cap : ℕ) (r : Ring) (n : ℕ) : Type 0 where
  pub head : r.head < cap
  pub count : r.count + n ≤ cap

-- the same, n being few enough for a word
pub record WordRoom (cap : ℕ) (r : Ring) (n : ℕ) : Type 0 where
  pub few : n ≤ 16
  pub room : Room cap r n

-- within the array, with an element to take out
pub record Some (cap : ℕ) (r : Ring) : Type 0 where
  pub head : r.head < cap
  pub some : 0 < r.count
  pub count : r.count ≤ cap
