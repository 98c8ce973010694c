-- The number that a list of bits makes: how large it is, one bit more, and digits and back. Assumes nothing.
use mathlib.Core.List.{List, [], ◌∷◌, ◌++◌}
use mathlib.Core.Path.{◌≡◌, refl, sym, ap, subst, ◌∙◌}
use Prim.Native.Nat.{ℕ, zero, suc, ◌+◌, ◌*◌, ◌/◌, ◌%◌, ◌^◌, ◌<◌}
use native.Mathlib.Nat.{pow-suc, mul_assoc, mul_comm, mod-lt}
use native.Mathlib.Numerals.{add-one}
use native.Mathlib.Omega.{arith}
use lib.Arith.{digits_lt, mod-mul}
use lib.Dec.{lit<}
use lib.ListN.{length, length-append}
use lib.Pow.{pow_pos}
use Rattle.binary.specs.Digits.{digits, value}

-- a list of bits
pub data Bits : List ℕ → Type 0 where
  none : Bits []
  more : {c : ℕ} {cs : List ℕ} → c < 2 → Bits cs → Bits (c ∷ cs)

pub value_below : {cs : List ℕ} → Bits cs → value cs < 2 ^ length cs
unfolding value
value_below none = omega arith
value_below (more {c} {cs} h r) =
    subst (λ (n : ℕ). c * 2 ^ length cs + value cs < n) (mul_comm 2 (2 ^ length cs) ∙ sym (pow-suc 2 (length cs)))
    (digits_lt h (value_below r))

-- a bit more behind
pub value_snoc : (cs : List ℕ) (b : ℕ) → value (cs ++ b ∷ []) ≡ 2 * value cs + b
unfolding value
value_snoc [] b = omega arith
value_snoc (c ∷ cs) b =
    let size : length (cs ++ b ∷ []) ≡ suc (length cs) = length-append cs (b ∷ []) ∙ add-one (length cs) in
    let top : c * 2 ^ suc (length cs) ≡ 2 * (c * 2 ^ length cs) =
    rw (pow-suc 2 (length cs)) (sym (mul_assoc c (2 ^ length cs) 2) ∙ mul_comm (c * 2 ^ length cs) 2) in
    rw (size, value_snoc cs b, top) (omega arith)

pub length_digits : (k n : ℕ) → length (digits k n) ≡ k
unfolding digits
length_digits zero n = refl
length_digits (suc k) n = ap suc (length_digits k n)

pub digits_bits : (k n : ℕ) → Bits (digits k n)
unfolding digits
digits_bits zero n = none
digits_bits (suc k) n = more (mod-lt (n / 2 ^ k) (lit< tt)) (digits_bits k n)

-- digits, and back
pub value_digits : (k n : ℕ) → value (digits k n) ≡ n % 2 ^ k
unfolding digits value
value_digits zero n = omega arith
value_digits (suc k) n =
    rw (length_digits k n, value_digits k n)
    (sym (ap (λ (m : ℕ). n % m) (pow-suc 2 k ∙ mul_comm (2 ^ k) 2) ∙ mod-mul n {m = 2} {c = 2 ^ k} (lit< tt) (pow_pos k)))
