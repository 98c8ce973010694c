-- The coded bits of the even states, filled in one after the other. Assumes nothing.
use mathlib.Core.List.{List}
use mathlib.Core.Path.{◌≡◌, refl}
use Prim.Native.Nat.{ℕ, zero, suc, ◌*◌, ◌≤◌, ◌<◌}
use native.Mathlib.Omega.{arith}
use lib.ListN.{get_or, replicate}
use Rattle.trellis.specs.declared.ConvCode.{ConvCode}
use Rattle.trellis.specs.Inner.{Halved, Blank}
use Rattle.trellis.specs.State.{window, parity_of}

-- the first n are filled
abbrev pub Filled : (ℕ → ℕ) → List ℕ → ℕ → Type 0
Filled value list n = (k : ℕ) → k < n → get_or list k 0 ≡ value k

-- a table of zeros
all_blank : Blank 0 (replicate 32 0)
all_blank = record { sized = refl; rest = λ k h. nothing 32 k }
  where
    nothing : (m k : ℕ) → ◌≡◌ {A = ℕ} (get_or (replicate m 0) k 0) 0
    nothing zero k = refl
    nothing (suc m) zero = refl
    nothing (suc m) (suc k) = nothing m k

-- ---- the loop

-- The invariant: the places of the first n even states are filled, and those behind them blank.
pub record Filling (code : ConvCode) (half : ℕ) (c0 c1 : List ℕ) (n : ℕ) : Type 0 where
  pub shape : Halved code half
  pub turns : n ≤ half
  pub first : Filled (λ (k : ℕ). parity_of code.g0 (window code (2 * k) 0)) c0 n
  pub second : Filled (λ (k : ℕ). parity_of code.g1 (window code (2 * k) 0)) c1 n
  pub rest0 : Blank n c0
  pub rest1 : Blank n c1

pub filling_starts : {code : ConvCode} {half : ℕ} → Halved code half → Filling code half (replicate 32 0) (replicate 32 0) 0
filling_starts shape =
    record {
      shape = shape;
      turns = omega arith;
      first = λ k h. absurd (omega arith);
      second = λ k h. absurd (omega arith);
      rest0 = all_blank;
      rest1 = all_blank;
    }
