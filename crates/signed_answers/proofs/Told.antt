-- A door's answer with a whole score is fixed by what is said of it, and the score's 32 bits tell the score. Assumes nothing.
use mathlib.Core.Path.{◌≡◌, sym, ap, ◌∙◌}
use Prim.Native.Nat.{suc, ◌-◌, ◌^◌, ◌<◌}
use native.Mathlib.Omega.{arith}
use borrow.Author.Tests.{lt-ltb, le-ltb}
use lib.IntN.{ℤ, pos, negsuc, nat_abs}
use Rattle.refusal.proofs.Determined.{Telling}
use Rattle.signed_answers.specs.Answer.{twos_complement, read_signed, ScoreNumbers}

pub score_numbers_tell : Telling ScoreNumbers
score_numbers_tell said r r' p q = p ∙ sym q

-- ---- the score's 32 bits

pub bits_below : (z : ℤ) → nat_abs z < 2 ^ 31 → twos_complement z < 2 ^ 32
unfolding twos_complement
bits_below (pos n) small = omega arith
bits_below (negsuc n) small = omega arith

-- read as the host reads them they are the score
pub bits_tell : (z : ℤ) → nat_abs z < 2 ^ 31 → read_signed (twos_complement z) ≡ z
unfolding twos_complement read_signed
bits_tell (pos n) small = rw (lt-ltb n (2 ^ 31) small)
bits_tell (negsuc n) small =
    let again : 2 ^ 32 - suc (2 ^ 32 - suc n) ≡ n = omega (arith, small) in
    rw (le-ltb (2 ^ 32 - suc n) (2 ^ 31) (omega (arith, small))) (ap negsuc again)
