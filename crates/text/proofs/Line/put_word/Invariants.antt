-- `text::Line::put_word`: the text of the bits so far stands behind what was written before. Assumes nothing.
use Rattle.std.proofs.Common.{◌≡◌, ◌++◌, map, take}
use Rattle.text.specs.Text.{bit_text}
use Rattle.text.proofs.Line.put_word.Given as goal

abbrev pub invariant-loop-bit : goal.invariant-loop-bit
invariant-loop-bit g l = l.self ≡ l.fn.self ++ map bit_text (take l.bit-index l.word)
