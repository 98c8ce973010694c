-- What the inner functions ensure: a call that puts bits is done, and whether its bits fit. Definitions only.
use Rattle.std.specs.Prelude.{Bool, ◌≡◌, ℕ, ◌+◌, ◌≤◌, ◌<◌, replicate, Result, Ok, Err}
use Rattle.queue.specs.declared.Queue.{Queue}
use Rattle.queue.specs.Records.{ring}
use Rattle.queue.specs.Ring.{Ring, read_as, put_all, bit_room}
use Rattle.queue.specs.Inner.{Room}
use Rattle.refusal.specs.declared.Refusal.{Refusal}
use Rattle.refusal.specs.declared.Refusal.TheVariants as refusal
use Rattle.varicode_writer.specs.Writer.{Writer}
use Rattle.varicode_writer.specs.Records.{Wrote}

-- `done`, with these bits pending
pub record Accepts (q : Queue bit_room) (flag : Bool) (r : Wrote) : Type 0 where
  pub answer : r.answer ≡ Ok tt
  pub pending : r.coder.pending ≡ q
  pub first : r.coder.first ≡ flag

-- how many bits are pending
abbrev pub held : Writer → ℕ
held w = (read_as bit_room w.pending).count

-- so many zeros behind what is pending, and room for n bits more
pub record Spaced (w : Writer) (zeros n : ℕ) (q : Ring) : Type 0 where
  pub fits : held w + (zeros + n) ≤ bit_room
  pub pending : q ≡ put_all bit_room (read_as bit_room w.pending) (replicate zeros 0)
  pub room : Room bit_room q n

-- they don't all fit
pub record Full (w : Writer) (zeros n : ℕ) (why : Refusal) : Type 0 where
  pub over : bit_room < held w + (zeros + n)
  pub refusal : why ≡ refusal.QueueFull

abbrev pub Spaces : Writer → (zeros n : ℕ) → Result (Queue bit_room) Refusal → Type 0
Spaces w zeros n (Ok q) = Spaced w zeros n (ring q)
Spaces w zeros n (Err why) = Full w zeros n why
