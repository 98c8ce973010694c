-- `text::decimal_digits`: the number gets smaller. Assumes nothing.
use Rattle.text.proofs.+decimal_digits.Given as goal

abbrev pub decreases-decimal_digits : goal.decreases-decimal_digits
decreases-decimal_digits l = l.n
