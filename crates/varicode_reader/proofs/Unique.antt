-- Of each entry, any two outcomes that its contract allows are equal. `Post` is the contract: of what the call is given, what it returns,
-- and what it leaves in each argument. `reader` tells two records apart, field by field. Assumes nothing.
use mathlib.Core.Path.{◌≡◌, ap, sym, ◌∙◌}
use Rattle.queue.proofs.Unique.{taken_told}
use Rattle.refusal.proofs.Told.{answer_told, answered_told}
use Rattle.varicode_reader.specs.declared.VaricodeDecoder.{VaricodeDecoder}
use Rattle.varicode_reader.specs.Reader.{Reader}
use Rattle.varicode_reader.specs.Records.{reader, Pushed, NextChar}
use Rattle.varicode_reader.proofs.VaricodeDecoder.new.Reads as new_decoder
use Rattle.varicode_reader.proofs.VaricodeDecoder.for_pauses.Reads as for_pauses
use Rattle.varicode_reader.proofs.VaricodeDecoder.push_bit.Reads as push_bit
use Rattle.varicode_reader.proofs.VaricodeDecoder.pop_char.Reads as pop_char

-- the record that a reader is
abbrev decoder_of : Reader → VaricodeDecoder
decoder_of r =
    record {
      pauses = r.pauses;
      shift = r.heard.shift;
      len = r.heard.len;
      prev_zero = r.heard.prev_zero;
      chars = record { slots = r.chars.slots; head = r.chars.head; count = r.chars.count };
    }

pub reader_told : (d e : VaricodeDecoder) → reader d ≡ reader e → d ≡ e
reader_told d e = ap decoder_of

pub new_decoder_determined :
    (κs : _) (given : _) (r r' : VaricodeDecoder) (left left' : _) →
    new_decoder.Post κs given r left → new_decoder.Post κs given r' left' → r ≡ r'
new_decoder_determined κs given r r' left left' p q = reader_told r r' (p ∙ sym q)

pub for_pauses-determined :
    (κs : _) (given : _) (r r' : VaricodeDecoder) (left left' : _) →
    for_pauses.Post κs given r left → for_pauses.Post κs given r' left' → r ≡ r'
for_pauses-determined κs given r r' left left' p q = reader_told r r' (p ∙ sym q)

pub push_bit-determined :
    (κs : _) (given : _) (r r' : Pushed) (left left' : _) → push_bit.Post κs given r left → push_bit.Post κs given r' left' → r ≡ r'
push_bit-determined κs given r r' left left' p q =
    answered_told r r' (answer_told r.answer r'.answer (p.answer ∙ sym q.answer))
    (reader_told r.coder r'.coder (p.state ∙ sym q.state))

pub pop_char-determined :
    (κs : _) (given : _) (r r' : NextChar) (left left' : _) → pop_char.Post κs given r left → pop_char.Post κs given r' left' → r ≡ r'
pop_char-determined κs given r r' left left' p q =
    answered_told r r' (taken_told r.answer r'.answer (p.answer ∙ sym q.answer))
    (reader_told r.coder r'.coder (p.state ∙ sym q.state))
