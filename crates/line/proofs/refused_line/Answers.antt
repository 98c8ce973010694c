-- `line::refused_line`: two numbers of ten digits at most, and the texts around them, are within the line's room.
-- Assumes nothing.
use Rattle.std.proofs.Common.{arith, lit<, length-append}
use Rattle.text.proofs.Digits.{decimal_few}
use Rattle.line.proofs.refused_line.Goals as goal

pub put_decimal-requires : goal.put_decimal-requires
put_decimal-requires c =
    (lit< tt, simp (c.put.ensures, c.new-line.ensures) (omega (arith, decimal_few 10 c.from.result)))

pub put-requires-2 : goal.put-requires-2
put-requires-2 c = (
  lit< tt,
  simp (c.put_decimal.ensures, c.put.ensures, c.new-line.ensures, length-append)
      (omega (arith, decimal_few 10 c.from.result)),
)

pub put_decimal-requires-2 : goal.put_decimal-requires-2
put_decimal-requires-2 c = (
  lit< tt,
  simp (c.put-2.ensures, c.put_decimal.ensures, c.put.ensures, c.new-line.ensures, length-append)
      (omega (arith, decimal_few 10 c.from.result, decimal_few 10 c.place.result)),
)

pub put-requires-3 : goal.put-requires-3
put-requires-3 c = (
  lit< tt,
  simp (c.put_decimal-2.ensures, c.put-2.ensures, c.put_decimal.ensures, c.put.ensures, c.new-line.ensures, length-append)
      (omega (arith, decimal_few 10 c.from.result, decimal_few 10 c.place.result)),
)
