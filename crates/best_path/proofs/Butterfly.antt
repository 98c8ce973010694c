-- A butterfly: the states 2n and 2n + 1 lead to n on the input 0 and to n + half on the input 1, and of the four branches two
-- bring the same, since their coded pairs are equal, and two the opposite pair's. Over any metric and code. Assumes nothing.
use mathlib.Core.List.{List}
use mathlib.Core.Path.{◌≡◌, sym, ap₂, ◌∙◌}
use Prim.Native.Nat.{ℕ, ◌+◌, ◌-◌, ◌*◌, ◌^◌, ◌<◌}
use native.Mathlib.Nat.{mod-lt}
use native.Mathlib.Omega.{arith}
use lib.Bits.{bit_and}
use lib.Count.{ones}
use lib.Dec.{lit<}
use lib.ListN.{get_or}
use Rattle.trellis.specs.declared.ConvCode.{ConvCode}
use Rattle.trellis.specs.Inner.{Ends, Crossed}
use Rattle.trellis.specs.State.{window, parity_of}
use Rattle.trellis.proofs.Ends.{turned_by_state0, turned_by_state1, turned_by_input0, turned_by_input1}
use Rattle.trellis.proofs.States.{states_two_halves}
use Rattle.best_path.specs.Metric.{Metric}
use Rattle.best_path.specs.Inner.{LedTo}
use Rattle.best_path.specs.Step.{Cell, unreached, relaxed, best}

parity_bit : (taps w : ℕ) → parity_of taps w < 2
unfolding parity_of
parity_bit taps w = mod-lt (ones (bit_and w taps)) (lit< tt)

-- `of` says what a coded pair brings; p0 and p1 are what the even state sends on the input 0
module _
    {M B : Type 0} (op : Metric M B) (code : ConvCode) (some : 0 < code.width) (ends : Ends code) (of : ℕ → ℕ → B) (gain : ℕ → ℕ → B)
    (by_pair : (s i : ℕ) → gain s i ≡ of (parity_of code.g0 (window code s i)) (parity_of code.g1 (window code s i)))
    (n : ℕ) (h : n < 2 ^ (code.width - 1)) (p0 p1 : ℕ) (first : p0 ≡ parity_of code.g0 (window code (2 * n) 0))
    (second : p1 ≡ parity_of code.g1 (window code (2 * n) 0)) where
  even : 2 * n < 2 ^ code.width
  even = omega (arith, states_two_halves code some)

  odd : 2 * n + 1 < 2 ^ code.width
  odd = omega (arith, states_two_halves code some)

  bit0 : p0 < 2
  bit0 = omega (arith, first, parity_bit code.g0 (window code (2 * n) 0))

  bit1 : p1 < 2
  bit1 = omega (arith, second, parity_bit code.g1 (window code (2 * n) 0))

  brought :
      (q0 q1 s i : ℕ) → q0 ≡ parity_of code.g0 (window code s i) → q1 ≡ parity_of code.g1 (window code s i) →
      of q0 q1 ≡ gain s i
  brought q0 q1 s i e f = ap₂ of e f ∙ sym (by_pair s i)

  even_zero : of p0 p1 ≡ gain (2 * n) 0
  even_zero = brought p0 p1 (2 * n) 0 first second

  odd-zero : of (1 - p0) (1 - p1) ≡ gain (2 * n + 1) 0
  odd-zero =
      brought (1 - p0) (1 - p1) (2 * n + 1) 0
      (omega (arith, first, turned_by_state0 code some ends n 0))
      (omega (arith, second, turned_by_state1 code some ends n 0))

  even_one : of (1 - p0) (1 - p1) ≡ gain (2 * n) 1
  even_one =
      brought (1 - p0) (1 - p1) (2 * n) 1
      (omega (arith, first, turned_by_input0 code ends (2 * n) even))
      (omega (arith, second, turned_by_input1 code ends (2 * n) even))

  odd_one : of p0 p1 ≡ gain (2 * n + 1) 1
  odd_one =
      brought p0 p1 (2 * n + 1) 1
      (omega (arith, bit0, first, turned_by_state0 code some ends n 0, turned_by_input0 code ends (2 * n + 1) odd))
      (omega (arith, bit1, second, turned_by_state1 code some ends n 0, turned_by_input1 code ends (2 * n + 1) odd))

  module _ (old : ℕ → M) (x y : B) (s : ℕ) (of_x : x ≡ of p0 p1) (of_y : y ≡ of (1 - p0) (1 - p1)) (of_s : s ≡ 2 * n) where
    two_ways :
        (g0 g1 : B) (i : ℕ) → g0 ≡ gain (2 * n) i → g1 ≡ gain (2 * n + 1) i →
        relaxed op (relaxed op (unreached op) (old (2 * n)) g0 s) (old (2 * n + 1)) g1 (s + 1) ≡ best op code old gain n i
    unfolding best
    two_ways g0 g1 i e f = rw (of_s, e, f)

    low_best :
        (r : Cell M) → r ≡ relaxed op (relaxed op (unreached op) (old (2 * n)) x s) (old (2 * n + 1)) y (s + 1) →
        r ≡ best op code old gain n 0
    low_best r e = e ∙ two_ways x y 0 (of_x ∙ even_zero) (of_y ∙ odd-zero)

    high_best :
        (r : Cell M) → r ≡ relaxed op (relaxed op (unreached op) (old (2 * n)) y s) (old (2 * n + 1)) x (s + 1) →
        r ≡ best op code old gain n 1
    high_best r e = e ∙ two_ways y x 1 (of_y ∙ even_one) (of_x ∙ odd_one)

-- The same as a decoder has it: the coded bits of the even states in two lists, and what a call on two states answers.
module _ (code : ConvCode) (half : ℕ) (c0 c1 : List ℕ) (crossed : Crossed code half c0 c1) (n : ℕ) (h : n < half) where
  pub crossed_bits : (get_or c0 n 0 < 2) × (get_or c1 n 0 < 2)
  crossed_bits = (
    omega (arith, crossed.first n h, parity_bit code.g0 (window code (2 * n) 0)),
    omega (arith, crossed.second n h, parity_bit code.g1 (window code (2 * n) 0)),
  )

  module _
      {M B : Type 0} (op : Metric M B) (of : ℕ → ℕ → B) (gain : ℕ → ℕ → B)
      (by_pair : (s i : ℕ) → gain s i ≡ of (parity_of code.g0 (window code s i)) (parity_of code.g1 (window code s i)))
      (old : ℕ → M) (x y : B) (of_x : x ≡ of (get_or c0 n 0) (get_or c1 n 0)) (of_y : y ≡ of (1 - get_or c0 n 0) (1 - get_or c1 n 0))
      (s : ℕ) (of_s : s ≡ 2 * n) where
    here : n < 2 ^ (code.width - 1)
    here = omega (arith, crossed.halved)

    pub wing_best :
        {low high : Cell M} → LedTo op (old (2 * n)) (old (2 * n + 1)) s x y low high →
        (low ≡ best op code old gain n 0) × (high ≡ best op code old gain n 1)
    wing_best {low} {high} led = (
      low_best op code crossed.some crossed.ends of gain by_pair n here _ _ (crossed.first n h) (crossed.second n h)
          old x y s of_x of_y of_s low led.low,
      high_best op code crossed.some crossed.ends of gain by_pair n here _ _ (crossed.first n h) (crossed.second n h)
          old x y s of_x of_y of_s high led.high,
    )
