-- A tap word's end bits: under one that is set, the window's bit turns the coded bit. So the two branches out of a state send
-- opposite pairs, and so do the two into a state. Over any width and tap word. Assumes nothing.
use mathlib.Core.Path.{◌≡◌, refl, sym, ap, ap₂, ◌∙◌}
use Prim.Native.Nat.{ℕ, zero, suc, ◌+◌, ◌-◌, ◌*◌, ◌/◌, ◌%◌, ◌^◌, ◌≤◌, ◌<◌}
use native.Mathlib.Nat.{add_comm, mul_comm, mul_assoc, mod-lt, lt_of_le_of_lt}
use native.Mathlib.Omega.{arith}
use lib.Bits.{bit_and, and_block, and_le_l}
use lib.Count.{ones, ones_cat}
use lib.Dec.{lit<}
use lib.Pow.{pow_pos, split, high}
use Rattle.trellis.specs.declared.ConvCode.{ConvCode}
use Rattle.trellis.specs.State.{window, parity_of}
use Rattle.trellis.specs.Inner.{Ends}
use Rattle.trellis.proofs.States.{states_two_halves}

-- the taps over the k lowest bits of a window, and those over the rest, are counted apart
ones-apart :
    (taps k a r w : ℕ) → r < 2 ^ k → w ≡ a * 2 ^ k + r →
    ones (bit_and w taps) ≡ ones (bit_and a (taps / 2 ^ k)) + ones (bit_and r (taps % 2 ^ k))
ones-apart taps k a r w h e =
    ap₂ (λ (m n : ℕ). ones (bit_and m n)) e (sym (split taps k))
    ∙ ap ones (and_block k a (taps / 2 ^ k) r (taps % 2 ^ k) h (mod-lt taps (pow_pos k)))
    ∙ ones_cat k (bit_and a (taps / 2 ^ k)) (bit_and r (taps % 2 ^ k)) (lt_of_le_of_lt (and_le_l r (taps % 2 ^ k)) h)

-- a tap that is set counts the bit that is under it
ones-set : (c t : ℕ) → c < 2 → t ≡ 1 → ones (bit_and c t) ≡ c
unfolding ones
ones-set zero t h e = refl
ones-set (suc zero) t h e = rw e refl
ones-set (suc (suc c)) t h e = absurd (omega arith)

-- one more one turns the parity
turned : {m n : ℕ} (rest : ℕ) → m ≡ rest + 1 → n ≡ rest + 0 → m % 2 ≡ 1 - n % 2
turned rest e f = omega arith

-- A tap word whose lowest bit is set: the window's lowest bit turns the coded bit.
pub parity_odd_state : (taps w : ℕ) → taps % 2 ≡ 1 → parity_of taps (2 * w + 1) ≡ 1 - parity_of taps (2 * w)
unfolding parity_of
parity_odd_state taps w low =
    turned above (count 1 (2 * w + 1) (lit< tt) (omega arith)) (count 0 (2 * w) (lit< tt) (omega arith))
  where
    above : ℕ
    above = ones (bit_and w (taps / 2))

    count : (c v : ℕ) → c < 2 → v ≡ w * 2 + c → ones (bit_and v taps) ≡ above + c
    count c v h e = ones-apart taps 1 w c v h e ∙ ap (λ (n : ℕ). above + n) (ones-set c (taps % 2) h low)

-- A tap word whose top bit is set: the input turns the coded bit. n is the register's width.
pub parity_input_one : (n taps s : ℕ) → s < 2 ^ n → 2 ^ n ≤ taps → taps < 2 * 2 ^ n → parity_of taps (2 ^ n + s) ≡ 1 - parity_of taps s
unfolding parity_of
parity_input_one n taps s h top within =
    turned below (count 1 (2 ^ n + s) (lit< tt) (omega arith)) (count 0 s (lit< tt) (omega arith))
  where
    below : ℕ
    below = ones (bit_and s (taps % 2 ^ n))

    rest : taps ≡ 1 * 2 ^ n + (taps - 2 ^ n)
    rest = omega arith

    set : taps / 2 ^ n ≡ 1
    set = ap (λ (m : ℕ). m / 2 ^ n) rest ∙ high 1 n (omega arith)

    count : (c v : ℕ) → c < 2 → v ≡ c * 2 ^ n + s → ones (bit_and v taps) ≡ below + c
    count c v g e =
        ones-apart taps n c s v h e ∙ ap (λ (m : ℕ). m + below) (ones-set c (taps / 2 ^ n) g set) ∙ add_comm c below

module _ (code : ConvCode) where
  -- the states 2k and 2k + 1 send opposite bits on the same input
  turned_by_state :
      (taps : ℕ) → taps % 2 ≡ 1 → 0 < code.width → (k b : ℕ) →
      parity_of taps (window code (2 * k + 1) b) ≡ 1 - parity_of taps (window code (2 * k) b)
  turned_by_state taps low some k b =
      ap (parity_of taps) (omega (arith, even)) ∙ parity_odd_state taps (b * half + k) low
      ∙ ap (λ (n : ℕ). 1 - parity_of taps n) (omega (arith, even))
    where
      half : ℕ
      half = 2 ^ (code.width - 1)

      even : b * 2 ^ code.width ≡ b * half * 2
      even = ap (λ (n : ℕ). b * n) (states_two_halves code some ∙ mul_comm 2 half) ∙ sym (mul_assoc b half 2)

  -- a state sends opposite bits on the two inputs
  turned_by_input :
      (taps : ℕ) → 2 ^ code.width ≤ taps → taps < 2 * 2 ^ code.width → (s : ℕ) → s < 2 ^ code.width →
      parity_of taps (window code s 1) ≡ 1 - parity_of taps (window code s 0)
  turned_by_input taps top within s h =
      ap (parity_of taps) (omega arith) ∙ parity_input_one code.width taps s h top within
      ∙ ap (λ (n : ℕ). 1 - parity_of taps n) (omega arith)

module _ (code : ConvCode) (some : 0 < code.width) (ends : Ends code) where
  pub turned_by_state0 : (k b : ℕ) → parity_of code.g0 (window code (2 * k + 1) b) ≡ 1 - parity_of code.g0 (window code (2 * k) b)
  turned_by_state0 = turned_by_state code code.g0 ends.low0 some

  pub turned_by_state1 : (k b : ℕ) → parity_of code.g1 (window code (2 * k + 1) b) ≡ 1 - parity_of code.g1 (window code (2 * k) b)
  turned_by_state1 = turned_by_state code code.g1 ends.low1 some

module _ (code : ConvCode) (ends : Ends code) where
  pub turned_by_input0 : (s : ℕ) → s < 2 ^ code.width → parity_of code.g0 (window code s 1) ≡ 1 - parity_of code.g0 (window code s 0)
  turned_by_input0 = turned_by_input code code.g0 ends.top0 ends.within0

  pub turned_by_input1 : (s : ℕ) → s < 2 ^ code.width → parity_of code.g1 (window code s 1) ≡ 1 - parity_of code.g1 (window code s 0)
  turned_by_input1 = turned_by_input code code.g1 ends.top1 ends.within1
