-- The writer as the code holds it: the definitions' form of the code's record. And what its calls give. Definitions
-- only.
use Rattle.std.specs.Prelude.{ℕ, Option, Result}
use Rattle.queue.specs.Records.{ring}
use Rattle.refusal.specs.declared.Answered.{Answered}
use Rattle.refusal.specs.declared.Refusal.{Refusal}
use Rattle.varicode_writer.specs.declared.VaricodeEncoder.{VaricodeEncoder}
use Rattle.varicode_writer.specs.Writer.{Writer}

abbrev pub writer : VaricodeEncoder → Writer
writer e = record { pending = ring e.pending; first = e.first }

-- what a call that puts bits gives, and one that takes a bit out: its answer, and the writer after it
abbrev pub Wrote : Type 0
Wrote = Answered (Result Unit Refusal) VaricodeEncoder

abbrev pub NextBit : Type 0
NextBit = Answered (Option ℕ) VaricodeEncoder
