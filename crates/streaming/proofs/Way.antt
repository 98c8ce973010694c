-- The way from a state to any other in as many steps as the register has cells: each step takes in the next bit of the state
-- to reach, low bits first. Over any code with a cell at least. Assumes nothing.
use mathlib.Core.Path.{◌≡◌, sym, ap, ◌∙◌}
use Prim.Native.Nat.{ℕ, suc, ◌+◌, ◌*◌, ◌/◌, ◌%◌, ◌^◌, ◌<◌}
use native.Mathlib.Nat.{mod-lt, mod-eq_of_lt, div-one}
use native.Mathlib.Numerals.{add-one}
use native.Mathlib.Omega.{arith}
use lib.Dec.{lit<}
use lib.Pow.{pow_pos, mod-pow-add, field, shr-shr, high, low}
use Rattle.trellis.specs.declared.ConvCode.{ConvCode}
use Rattle.trellis.specs.State.{next_state}
use Rattle.trellis.proofs.States.{next_window_half}

module _ (code : ConvCode) (some : 0 < code.width) where
  abbrev cells : ℕ
  cells = code.width

  -- the register shifts right under the bits above it
  next_shifted : (x : ℕ) → next_state code (x % 2 ^ cells) (x / 2 ^ cells % 2) ≡ x / 2 % 2 ^ cells
  next_shifted x =
      next_window_half code some (x % 2 ^ cells) (x / 2 ^ cells % 2)
      ∙ ap (λ (n : ℕ). n / 2) (sym (mod-pow-add x 1 cells) ∙ ap (λ (n : ℕ). x % 2 ^ n) (omega arith))
      ∙ field x cells 1

-- after j steps from the state s on the way to the state n
abbrev pub way : ConvCode → (s n j : ℕ) → ℕ
way code s n j = (n * 2 ^ code.width + s) / 2 ^ j % 2 ^ code.width

-- the input of the step after that
abbrev pub way_input : ConvCode → (s n j : ℕ) → ℕ
way_input code s n j = (n * 2 ^ code.width + s) / 2 ^ j / 2 ^ code.width % 2

pub way_below : (code : ConvCode) (s n j : ℕ) → way code s n j < 2 ^ code.width
way_below code s n j = mod-lt ((n * 2 ^ code.width + s) / 2 ^ j) (pow_pos code.width)

pub way_input_lem : (code : ConvCode) (s n j : ℕ) → way_input code s n j < 2
way_input_lem code s n j = mod-lt ((n * 2 ^ code.width + s) / 2 ^ j / 2 ^ code.width) (lit< tt)

pub way_starts : (code : ConvCode) (s n : ℕ) → s < 2 ^ code.width → way code s n 0 ≡ s
way_starts code s n h = ap (λ (x : ℕ). x % 2 ^ code.width) (div-one (n * 2 ^ code.width + s)) ∙ low n code.width h

pub way_next :
    (code : ConvCode) → 0 < code.width → (s n j : ℕ) → next_state code (way code s n j) (way_input code s n j) ≡ way code s n (suc j)
way_next code some s n j =
    let x = n * 2 ^ code.width + s in
    next_shifted code some (x / 2 ^ j) ∙ ap (λ (y : ℕ). y % 2 ^ code.width) (shr-shr x j 1 ∙ ap (λ (i : ℕ). x / 2 ^ i) (add-one j))

pub way_ends : (code : ConvCode) (s n : ℕ) → s < 2 ^ code.width → n < 2 ^ code.width → way code s n code.width ≡ n
way_ends code s n h k = ap (λ (x : ℕ). x % 2 ^ code.width) (high n code.width h) ∙ mod-eq_of_lt k
