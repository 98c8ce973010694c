-- What the inner functions ensure. Definitions only.
use Rattle.std.specs.Prelude.{◌++◌, ◌≡◌, ℕ, ◌+◌, length, take, Option, Result}
use Rattle.refusal.specs.Lent.{over, Lent}
use Rattle.refusal.specs.declared.Refusal.{Refusal}
use Rattle.streaming.specs.Said.{emitted_said, bits_in}

-- `put_bit`: an answer's bits at a place, and the place after them
pub record PutsBits (answer : Result (Option ℕ) Refusal) (at next : ℕ) (out : Lent ℕ) : Type 0 where
  pub place : next ≡ at + length (bits_in (emitted_said answer))
  pub output : out.left ≡ over (take at out.given ++ bits_in (emitted_said answer)) out.given
