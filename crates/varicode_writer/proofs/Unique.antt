-- Of each entry, any two outcomes that its contract allows are equal. `Post` is the contract: of what the call is given, what it returns,
-- and what it leaves in each argument. `writer` tells two records apart, field by field. Assumes nothing.
use mathlib.Core.Path.{◌≡◌, ap, sym, ◌∙◌}
use Rattle.queue.proofs.Unique.{taken_told}
use Rattle.refusal.proofs.Told.{answer_told, answered_told}
use Rattle.varicode_writer.specs.declared.VaricodeEncoder.{VaricodeEncoder}
use Rattle.varicode_writer.specs.Writer.{Writer, Call}
use Rattle.varicode_writer.specs.Records.{writer, Wrote, NextBit}
use Rattle.varicode_writer.specs.Promise.{Puts}
use Rattle.varicode_writer.proofs.VaricodeEncoder.new.Reads as new_encoder
use Rattle.varicode_writer.proofs.VaricodeEncoder.push_preamble.Reads as push_preamble
use Rattle.varicode_writer.proofs.VaricodeEncoder.push_byte.Reads as push_byte
use Rattle.varicode_writer.proofs.VaricodeEncoder.push_postamble.Reads as push_postamble
use Rattle.varicode_writer.proofs.VaricodeEncoder.next_bit.Reads as next_bit

-- the record that a writer is
abbrev encoder_of : Writer → VaricodeEncoder
encoder_of w =
    record { pending = record { slots = w.pending.slots; head = w.pending.head; count = w.pending.count }; first = w.first }

pub writer_told : (d e : VaricodeEncoder) → writer d ≡ writer e → d ≡ e
writer_told d e = ap encoder_of

pub new_encoder_determined :
    (κs : _) (given : _) (r r' : VaricodeEncoder) (left left' : _) →
    new_encoder.Post κs given r left → new_encoder.Post κs given r' left' → r ≡ r'
new_encoder_determined κs given r r' left left' p q = writer_told r r' (p ∙ sym q)

puts_determined : (e : VaricodeEncoder) (c : Call) (r r' : Wrote) → Puts e c r → Puts e c r' → r ≡ r'
puts_determined e c r r' p q =
    answered_told r r' (answer_told r.answer r'.answer (p.answer ∙ sym q.answer))
    (writer_told r.coder r'.coder (p.state ∙ sym q.state))

pub push_preamble-determined :
    (κs : _) (given : _) (r r' : Wrote) (left left' : _) →
    push_preamble.Post κs given r left → push_preamble.Post κs given r' left' → r ≡ r'
push_preamble-determined κs given r r' left left' p q = puts_determined _ _ r r' p q

pub push_byte-determined :
    (κs : _) (given : _) (r r' : Wrote) (left left' : _) → push_byte.Post κs given r left → push_byte.Post κs given r' left' → r ≡ r'
push_byte-determined κs given r r' left left' p q = puts_determined _ _ r r' p q

pub push_postamble-determined :
    (κs : _) (given : _) (r r' : Wrote) (left left' : _) →
    push_postamble.Post κs given r left → push_postamble.Post κs given r' left' → r ≡ r'
push_postamble-determined κs given r r' left left' p q = puts_determined _ _ r r' p q

pub next_bit-determined :
    (κs : _) (given : _) (r r' : NextBit) (left left' : _) → next_bit.Post κs given r left → next_bit.Post κs given r' left' → r ≡ r'
next_bit-determined κs given r r' left left' p q =
    answered_told r r' (taken_told r.answer r'.answer (p.answer ∙ sym q.answer))
    (writer_told r.coder r'.coder (p.state ∙ sym q.state))
