-- The register's cells and the number that they make: shifting halves the window, and the parity of the masked window is the coded bit.
-- Over any width and tap word. Assumes nothing.
use mathlib.Core.List.{List, [], ◌∷◌}
use mathlib.Core.Path.{◌≡◌, refl, sym, ap, ap₂, ◌∙◌}
use Prim.Native.Nat.{ℕ, zero, suc, ◌+◌, ◌*◌, ◌/◌, ◌%◌, ◌^◌, ◌<◌}
use native.Mathlib.Nat.{mul-zero, mod-lt, mod-eq_of_lt, lt_of_le_of_lt}
use native.Mathlib.Omega.{arith}
use lib.Dec.{lit<}
use lib.Bits.{bit_and, block_half, and_block, and_le_l, and_comm, and_mask, and_mod}
use lib.Count.{ones, ones_cat}
use lib.ListN.{length}
use lib.Pow.{pow_pos, split}
use Rattle.binary.specs.Digits.{digits, value}
use Rattle.binary.proofs.Values.{Bits, none, more, value_below}
use Rattle.trellis.specs.Register.{tapped, coded_bit, shifted}
use Rattle.trellis.specs.State.{parity_of}

pub length-shifted : (b : ℕ) (cs : List ℕ) → length (shifted b cs) ≡ length cs
unfolding shifted
length-shifted b [] = refl
length-shifted b (c ∷ cs) = ap suc (length-shifted c cs)

pub shifted_bits : {b : ℕ} {cs : List ℕ} → b < 2 → Bits cs → Bits (shifted b cs)
unfolding shifted
shifted_bits h none = none
shifted_bits h (more g r) = more h (shifted_bits g r)

-- shifting drops the window's lowest bit
pub value_shifted : {b : ℕ} {cs : List ℕ} → b < 2 → Bits cs → value (shifted b cs) ≡ value (b ∷ cs) / 2
unfolding value shifted
value_shifted {b} h none = omega arith
value_shifted {b} h (more {c} {cs} g r) =
    rw (length-shifted c cs, value_shifted g r) (sym (block_half b (length cs) (c * 2 ^ length cs + value cs)))

-- one tap over one bit
ones_bit : (m : ℕ) → m < 2 → ones m ≡ m * 1
unfolding ones
ones_bit zero h = refl
ones_bit (suc zero) h = refl
ones_bit (suc (suc m)) h = absurd (omega arith)

lowest_bit : (n : ℕ) → bit_and 1 n ≡ n % 2
lowest_bit n = and_comm 1 n ∙ and_mask n 1

tapped_bit : (c n : ℕ) → c < 2 → ones (bit_and c n) ≡ n % 2 * c
unfolding ones
tapped_bit zero n h = sym (mul-zero (n % 2))
tapped_bit (suc zero) n h = ap ones (lowest_bit n) ∙ ones_bit (n % 2) (mod-lt n (lit< tt))
tapped_bit (suc (suc c)) n h = absurd (omega arith)

-- a number of k bits looks no further than the k lowest bits of its mask
masked : {v : ℕ} (taps k : ℕ) → v < 2 ^ k → bit_and v taps ≡ bit_and v (taps % 2 ^ k)
masked {v} taps k h =
    sym (mod-eq_of_lt (lt_of_le_of_lt (and_le_l v taps) h)) ∙ and_mod v taps k
    ∙ ap (λ (n : ℕ). bit_and n (taps % 2 ^ k)) (mod-eq_of_lt h)

-- the count of ones in the masked window, cell by cell
pub ones-tapped : (taps : ℕ) {cs : List ℕ} → Bits cs → ones (bit_and (value cs) taps) ≡ tapped (digits (length cs) taps) cs
unfolding value tapped digits
ones-tapped taps none = ones_bit 0 (lit< tt)
ones-tapped taps (more {c} {cs} h r) =
    let k = length cs in
    let low : value cs < 2 ^ k = value_below r in
    ap (λ (n : ℕ). ones (bit_and (c * 2 ^ k + value cs) n)) (sym (split taps k))
    ∙ ap ones (and_block k c (taps / 2 ^ k) (value cs) (taps % 2 ^ k) low (mod-lt taps (pow_pos k)))
    ∙ ones_cat k (bit_and c (taps / 2 ^ k)) (bit_and (value cs) (taps % 2 ^ k)) (lt_of_le_of_lt (and_le_l (value cs) (taps % 2 ^ k)) low)
    ∙ ap₂ ◌+◌ (tapped_bit c (taps / 2 ^ k) h) (ap ones (sym (masked taps k low)) ∙ ones-tapped taps r)

-- a coded bit is the parity of the masked window
pub coded_parity : (taps : ℕ) {cs : List ℕ} → Bits cs → coded_bit taps cs ≡ parity_of taps (value cs)
unfolding coded_bit parity_of
coded_parity taps r = ap (λ (n : ℕ). n % 2) (sym (ones-tapped taps r))
