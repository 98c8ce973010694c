-- The library's cast gives the 32 bits of a number. Assumes nothing.
use mathlib.Core.Path.{◌≡◌, refl}
use Rattle.std.specs.Int.{cast_unsigned}
use lib.IntN.{ℤ, pos, negsuc}
use mir.Syntax.{w32}
use Rattle.signed_answers.specs.Answer.{twos_complement}

pub cast_bits : (z : ℤ) → cast_unsigned w32 z ≡ twos_complement z
unfolding twos_complement
cast_bits (pos n) = refl
cast_bits (negsuc n) = refl
