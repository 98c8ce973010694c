-- `line::word_line`: a word of the most info bits, eight digits, and the texts around them are within the line's room.
-- Assumes nothing.
use Rattle.std.proofs.Common.{arith, lit<, length-append}
use Rattle.text.proofs.Digits.{eight}
use Rattle.line.proofs.Written.{text_few}
use Rattle.line.proofs.word_line.Goals as goal

pub put_hex-requires : goal.put_hex-requires
put_hex-requires c = (
  lit< tt,
  simp (c.put-2.ensures, c.put_word.ensures, c.put.ensures, c.new-line.ensures, length-append)
      (omega (arith, text_few c.args.word.now c.requires, eight c.bits_of.result)),
)

pub put-requires-3 : goal.put-requires-3
put-requires-3 c = (
  lit< tt,
  simp (c.put_hex.ensures, c.put-2.ensures, c.put_word.ensures, c.put.ensures, c.new-line.ensures, length-append)
      (omega (arith, text_few c.args.word.now c.requires, eight c.bits_of.result)),
)
