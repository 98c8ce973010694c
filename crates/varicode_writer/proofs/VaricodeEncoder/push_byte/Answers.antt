-- `varicode_writer::VaricodeEncoder::push_byte`: a byte of 128 or above refused; else the gap and the word where they fit. Assumes nothing.
use mathlib.Core.Path.{sym, ap₂, ◌∙◌}
use Prim.Native.Nat.{◌+◌}
use native.Mathlib.Omega.{arith}
use borrow.Author.Rules.{rules}
use Rattle.queue.specs.Inner.{WordRoom}
use Rattle.queue.specs.Records.{ring}
use Rattle.queue.specs.Ring.{bit_room}
use Rattle.varicode_words.proofs.Facts.{any_word_length}
use Rattle.varicode_writer.specs.Writer.{byte, first_after}
use Rattle.varicode_writer.proofs.Puts.{low_byte_not_high, puts_refused, puts_done, length-byte, byte_split}
use Rattle.varicode_writer.proofs.VaricodeEncoder.push_byte.Goals as goal

pub put_word-requires : goal.put_word-requires
put_word-requires c =
    let (some, short) = any_word_length c.args.b in
    let room : WordRoom bit_room (ring c.in-Ok.q) c.varicode_encode-word.result.len =
    record { few = omega (arith, c.varicode_encode-word.ensures.len, short); room = c.in-Ok.ensures.room } in
    search rules

pub returns-in-Ok : goal.returns-in-Ok
unfolding first_after
returns-in-Ok c =
    let args = c.args in
    let word = c.varicode_encode-word in
    puts_done args.self (byte args.b) _ (low_byte_not_high args.b (omega arith))
    (length-byte args.self.first args.b ∙ ap₂ ◌+◌ (sym c.gap_len.ensures) (sym word.ensures.len))
    c.in-Ok.ensures _ (byte_split args.self.first args.b _ _ _ c.gap_len.ensures word.ensures.bits word.ensures.len)
    c.put_word.ensures c.done.ensures

pub returns-in-Err : goal.returns-in-Err
returns-in-Err c =
    let args = c.args in
    let word = c.varicode_encode-word in
    puts_refused args.self (byte args.b) _ (low_byte_not_high args.b (omega arith))
    (length-byte args.self.first args.b ∙ ap₂ ◌+◌ (sym c.gap_len.ensures) (sym word.ensures.len))
    _ c.in-Err.ensures c.refused-in-Err.ensures
