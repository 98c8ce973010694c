-- `text::decimal_digits`: the digits before the last leave room for it. Assumes nothing.
use Rattle.std.proofs.Common.{length, ap, ◌∙◌, arith, lit<}
use Rattle.text.proofs.Digits.{decimal_room}
use Rattle.text.proofs.+decimal_digits.Goals as goal
use Rattle.text.proofs.+decimal_digits.Goals.{then-n-lt10, else-n-lt10}

pub put_byte-requires : goal.put_byte-requires
put_byte-requires t c = (
  lit< tt,
  elim c.if-n-lt10.branch [
    | then-n-lt10 w ↦ omega (arith, ap length (w.digits-is ∙ w.new-digits.ensures))
    | else-n-lt10 w ↦ omega (arith, decimal_room c.args.n, ap length (w.digits-is ∙ w.decimal_digits-digits.ensures))
  ],
)
