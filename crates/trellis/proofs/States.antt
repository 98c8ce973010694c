-- States: the next one is the window halved, none leaves its range, each has two predecessors, and the state is the register's value.
-- Over any code with a cell at least. Assumes nothing.
use mathlib.Core.List.{List}
use mathlib.Core.Logic.{◌⊎◌, inl, inr}
use mathlib.Core.Path.{◌≡◌, refl, sym, ap, ap₂, subst, ◌∙◌}
use Prim.Native.Nat.{ℕ, zero, suc, ◌+◌, ◌-◌, ◌*◌, ◌/◌, ◌%◌, ◌^◌, ◌<◌}
use native.Mathlib.Nat.{add_comm, mul_comm, pow-suc, div-lt_iff_lt-mul}
use native.Mathlib.Omega.{arith}
use lib.Arith.{digits_lt, digits_div, digits_mod}
use lib.Bits.{block_half}
use lib.Dec.{lit<}
use lib.ListN.{length, get_or, replicate, length-replicate}
use lib.Pow.{pow_pos, shr_lt}
use Rattle.binary.specs.Digits.{value}
use Rattle.binary.proofs.Values.{Bits, none, more}
use Rattle.trellis.specs.declared.ConvCode.{ConvCode}
use Rattle.trellis.specs.Register.{register_after}
use Rattle.trellis.specs.State.{window, next_state, state_after}
use Rattle.trellis.proofs.Cells.{length-shifted, shifted_bits, value_shifted}

-- each input is a bit
abbrev pub Inputs : List ℕ → Type 0
Inputs inputs = (t : ℕ) → get_or inputs t 0 < 2

module _ (code : ConvCode) (some : 0 < code.width) where
  abbrev cells : ℕ
  cells = code.width

  abbrev half : ℕ
  half = 2 ^ (cells - 1)

  width_suc : cells ≡ suc (cells - 1)
  width_suc = omega arith

  pub states_two_halves : 2 ^ cells ≡ 2 * half
  states_two_halves = ap (λ (n : ℕ). 2 ^ n) width_suc ∙ pow-suc 2 (cells - 1) ∙ mul_comm half 2

  pub next_window_half : (s b : ℕ) → next_state code s b ≡ window code s b / 2
  unfolding next_state
  next_window_half s b =
      add_comm (s / 2) (b * half) ∙ sym (block_half b (cells - 1) s) ∙ ap (λ (n : ℕ). (b * 2 ^ n + s) / 2) (sym width_suc)

  pub next_below : (s b : ℕ) → s < 2 ^ cells → b < 2 → next_state code s b < 2 ^ cells
  next_below s b h g =
      rw (next_window_half s b)
      ((div-lt_iff_lt-mul (lit< tt)).1 (subst (λ (n : ℕ). window code s b < n) (mul_comm 2 (2 ^ cells)) (digits_lt g h)))

  -- the states 2k and 2k + 1 lead on the input b to the state k + b * half
  pub leads_to : (k b j : ℕ) → j < 2 → next_state code (2 * k + j) b ≡ k + b * half
  unfolding next_state
  leads_to k b j h = ap (λ (n : ℕ). n + b * half) (omega arith)

  half_below : {s : ℕ} → s < 2 ^ cells → s / 2 < half
  half_below {s} h =
      shr_lt (cells - 1) 1 (subst (λ (n : ℕ). s < 2 ^ n) (omega arith) h)

  -- and no other state does, nor another input
  pub comes_from :
      (s b k c : ℕ) → s < 2 ^ cells → k < half → next_state code s b ≡ k + c * half →
      (b ≡ c) × ((s ≡ 2 * k) ⊎ (s ≡ 2 * k + 1))
  unfolding next_state
  comes_from s b k c h g e =
      let same : b * half + s / 2 ≡ c * half + k = add_comm (b * half) (s / 2) ∙ e ∙ add_comm k (c * half) in
      let upper : b ≡ c = sym (digits_div b (half_below h)) ∙ ap (λ (n : ℕ). n / half) same ∙ digits_div c g in
      let lower : s / 2 ≡ k = sym (digits_mod b (half_below h)) ∙ ap (λ (n : ℕ). n % half) same ∙ digits_mod c g in
      (upper, parts lower (s % 2) refl)
    where
      parts : s / 2 ≡ k → (r : ℕ) → s % 2 ≡ r → (s ≡ 2 * k) ⊎ (s ≡ 2 * k + 1)
      parts f zero q = inl (omega arith)
      parts f (suc r) q = inr (omega arith)

  pub state_below : (inputs : List ℕ) → Inputs inputs → (t : ℕ) → state_after code inputs t < 2 ^ cells
  unfolding state_after
  state_below inputs are zero = pow_pos cells
  state_below inputs are (suc t) = next_below (state_after code inputs t) (get_or inputs t 0) (state_below inputs are t) (are t)

zeros_bits : (n : ℕ) → Bits (replicate n 0)
zeros_bits zero = none
zeros_bits (suc n) = more (lit< tt) (zeros_bits n)

value_zeros : (n : ℕ) → value (replicate n 0) ≡ 0
unfolding value
value_zeros zero = refl
value_zeros (suc n) = omega (arith, value_zeros n)

module _ (code : ConvCode) (inputs : List ℕ) where
  abbrev cells_after : ℕ → List ℕ
  cells_after t = register_after code.width inputs t

  pub length-register : (t : ℕ) → length (cells_after t) ≡ code.width
  unfolding register_after
  length-register zero = length-replicate code.width 0
  length-register (suc t) = length-shifted (get_or inputs t 0) (cells_after t) ∙ length-register t

  pub register_bits : Inputs inputs → (t : ℕ) → Bits (cells_after t)
  unfolding register_after
  register_bits are zero = zeros_bits code.width
  register_bits are (suc t) = shifted_bits (are t) (register_bits are t)

  -- the register's value is the state
  pub register_state : 0 < code.width → Inputs inputs → (t : ℕ) → value (cells_after t) ≡ state_after code inputs t
  unfolding register_after state_after value
  register_state some are zero = value_zeros code.width
  register_state some are (suc t) =
      value_shifted (are t) (register_bits are t)
      ∙ ap₂ (λ (n v : ℕ). (get_or inputs t 0 * 2 ^ n + v) / 2) (length-register t) (register_state some are t)
      ∙ sym (next_window_half code some (state_after code inputs t) (get_or inputs t 0))
