-- `text::Line::put_hex`: the digits so far stand behind what was written before. Assumes nothing.
use Rattle.text.proofs.Digits.{HexPut}
use Rattle.text.proofs.Line.put_hex.Given as goal

abbrev pub invariant-loop-place : goal.invariant-loop-place
invariant-loop-place g l = HexPut l.n l.fn.self l.place l.self
