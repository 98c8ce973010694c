-- What is sent, for any code and keep pattern: how many bits, from which inputs, and by the state in place of the register.
-- Assumes nothing.
use mathlib.Core.List.{List, [], ◌∷◌, ◌++◌}
use mathlib.Core.Path.{◌≡◌, refl, sym, ap, ap₂, subst, ◌∙◌}
use Prim.Native.Nat.{ℕ, zero, suc, ◌+◌, ◌*◌, ◌%◌, ◌^◌, ◌<◌}
use native.Mathlib.Nat.{mod-lt, mod-eq_of_lt}
use lib.Dec.{lit<}
use lib.ListN.{length, get_or, replicate, get_or-map}
use Rattle.binary.specs.Digits.{value}
use Rattle.binary.proofs.Values.{more}
use Rattle.trellis.specs.declared.ConvCode.{ConvCode}
use Rattle.trellis.specs.Register.{coded_bit, shifted, register_after}
use Rattle.trellis.specs.Keep.{Keep, Pattern, kept_through, coded_length}
use Rattle.trellis.specs.Codeword.{window_at, coded0, coded1, sent_by, lowest_bits, zero_tailed, steps_of, codeword}
use Rattle.trellis.specs.State.{window, parity_of, state_after}
use Rattle.trellis.proofs.Cells.{coded_parity}
use Rattle.trellis.proofs.States.{Inputs, length-register, register_bits, register_state}
use Rattle.trellis.proofs.Kept.{length-kept}

-- ---- how many

pub length-sent : (code : ConvCode) (p : Keep) → Pattern p → (inputs : List ℕ) (t : ℕ) → length (sent_by code p inputs t) ≡ coded_length p t
unfolding sent_by
length-sent code p good inputs t = length-kept p good _ _ t

pub length-codeword :
    (code : ConvCode) (p : Keep) → Pattern p → (info : List ℕ) →
    length (codeword code p info) ≡ coded_length p (steps_of code (length info))
unfolding codeword
length-codeword code p good info = length-sent code p good (zero_tailed code info) (steps_of code (length info))

-- ---- from which inputs

pub get_d_lowest : (bytes : List ℕ) (t : ℕ) → get_or (lowest_bits bytes) t 0 ≡ get_or bytes t 0 % 2
unfolding lowest_bits
get_d_lowest bytes t = get_or-map (λ (b : ℕ). b % 2) bytes t 0

pub lowest_inputs : (bytes : List ℕ) → Inputs (lowest_bits bytes)
lowest_inputs bytes t = subst (λ (n : ℕ). n < 2) (sym (get_d_lowest bytes t)) (mod-lt (get_or bytes t 0) (lit< tt))

-- bits are their own lowest bits
lowest_same : (bits : List ℕ) → Inputs bits → lowest_bits bits ≡ bits
unfolding lowest_bits
lowest_same [] are = refl
lowest_same (b ∷ bits) are = ap₂ ◌∷◌ (mod-eq_of_lt (are 0)) (lowest_same bits (λ t. are (suc t)))

pub tailed_bits : (code : ConvCode) (bits : List ℕ) → Inputs bits → zero_tailed code bits ≡ bits ++ replicate code.width 0
unfolding zero_tailed
tailed_bits code bits are = ap (λ (xs : List ℕ). xs ++ replicate code.width 0) (lowest_same bits are)

get_d_zeros : (n t : ℕ) → ◌≡◌ {A = ℕ} (get_or (replicate n 0) t 0) 0
get_d_zeros zero t = refl
get_d_zeros (suc n) zero = refl
get_d_zeros (suc n) (suc t) = get_d_zeros n t

-- zeros behind a list are what is read past its end
get_d_tail : (xs : List ℕ) (n t : ℕ) → get_or (xs ++ replicate n 0) t 0 ≡ get_or xs t 0
get_d_tail [] n t = get_d_zeros n t
get_d_tail (x ∷ xs) n zero = refl
get_d_tail (x ∷ xs) n (suc t) = get_d_tail xs n t

module _ (xs ys : List ℕ) (same : (t : ℕ) → get_or xs t 0 ≡ get_or ys t 0) where
  register_same : (width t : ℕ) → register_after width xs t ≡ register_after width ys t
  unfolding register_after
  register_same width zero = refl
  register_same width (suc t) = ap₂ shifted (same t) (register_same width t)

  pub sent-same : (code : ConvCode) (p : Keep) (t : ℕ) → sent_by code p xs t ≡ sent_by code p ys t
  unfolding sent_by coded0 coded1 window_at kept_through
  sent-same code p zero = refl
  sent-same code p (suc t) = rw (sent-same code p t, same t, register_same code.width t)

-- the zero tail needs no list of its own
pub codeword_sent :
    (code : ConvCode) (p : Keep) (info : List ℕ) →
    codeword code p info ≡ sent_by code p (lowest_bits info) (steps_of code (length info))
unfolding codeword zero_tailed
codeword_sent code p info = sent-same _ _ (get_d_tail (lowest_bits info) code.width) code p (steps_of code (length info))

-- ---- by the state

module _ (code : ConvCode) (some : 0 < code.width) (inputs : List ℕ) (are : Inputs inputs) (t : ℕ) where
  abbrev window_now : ℕ
  window_now = window code (state_after code inputs t) (get_or inputs t 0)

  coded_state : (taps : ℕ) → coded_bit taps (window_at code inputs t) ≡ parity_of taps window_now
  unfolding window_at value
  coded_state taps =
      coded_parity taps (more (are t) (register_bits code inputs are t))
      ∙ ap₂ (λ (n v : ℕ). parity_of taps (get_or inputs t 0 * 2 ^ n + v))
      (length-register code inputs t) (register_state code inputs some are t)

  pub coded0_state : coded0 code inputs t ≡ parity_of code.g0 window_now
  unfolding coded0
  coded0_state = coded_state code.g0

  pub coded1_state : coded1 code inputs t ≡ parity_of code.g1 window_now
  unfolding coded1
  coded1_state = coded_state code.g1
