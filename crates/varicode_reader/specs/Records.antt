-- The reader as the code holds it: the definitions' form of the code's record. And what its calls give. Definitions
-- only.
use Rattle.std.specs.Prelude.{ℕ, Option, Result}
use Rattle.queue.specs.Records.{ring}
use Rattle.refusal.specs.declared.Answered.{Answered}
use Rattle.refusal.specs.declared.Refusal.{Refusal}
use Rattle.varicode_reader.specs.declared.VaricodeDecoder.{VaricodeDecoder}
use Rattle.varicode_reader.specs.Reader.{Reader}

abbrev pub reader : VaricodeDecoder → Reader
reader d =
    record {
      pauses = d.pauses;
      heard = record { shift = d.shift; len = d.len; prev_zero = d.prev_zero };
      chars = ring d.chars;
    }

-- what a call that pushes a bit gives, and one that takes a character out: its answer, and the reader after it
abbrev pub Pushed : Type 0
Pushed = Answered (Result Unit Refusal) VaricodeDecoder

abbrev pub NextChar : Type 0
NextChar = Answered (Option ℕ) VaricodeDecoder
