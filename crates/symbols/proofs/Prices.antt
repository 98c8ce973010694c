-- The phasor table as the code holds it; a coded pair's cost, picked by tests from the four of a symbol, and the opposite pair's.
-- Assumes nothing.
use mathlib.Core.Path.{◌≡◌, refl}
use Prim.Native.Nat.{ℕ, zero, suc, ◌-◌, ◌<◌}
use native.Mathlib.Omega.{arith}
use lib.Ieee.{Float, binary32, of_bits, neg}
use Rattle.f32s.specs.Single.{zero32}
use Rattle.symbols.specs.Costs.{cost, phasor_of}
use Rattle.symbols.specs.Inner.{Priced, pair_cost, opposite}
use Rattle.symbols.specs.declared.phasors.Prices.{Prices}

-- the phasors of 01 and 11 have a -1, which the code holds as its bits
pub phasor_01 : record { re = zero32; im = of_bits binary32 0xbf80_0000 } ≡ phasor_of 0 1
unfolding of_bits neg
phasor_01 = refl

pub phasor_11 : record { re = of_bits binary32 0xbf80_0000; im = zero32 } ≡ phasor_of 1 1
unfolding of_bits neg
phasor_11 = refl

module _ (re im : Float) (r : Prices) (priced : Priced re im r) where
  pub pair_cost_lem :
      (c0 c1 : ℕ) → c0 < 2 → c1 < 2 →
      pair_cost c0 c1 r ≡ cost re im (phasor_of c0 c1)
  pair_cost_lem zero zero h g = priced.of_00
  pair_cost_lem zero (suc zero) h g = priced.of_01
  pair_cost_lem zero (suc (suc c1)) h g = absurd (omega arith)
  pair_cost_lem (suc zero) zero h g = priced.of_10
  pair_cost_lem (suc zero) (suc zero) h g = priced.of_11
  pair_cost_lem (suc zero) (suc (suc c1)) h g = absurd (omega arith)
  pair_cost_lem (suc (suc c0)) c1 h g = absurd (omega arith)

  pub opposite_cost :
      (c0 c1 : ℕ) → c0 < 2 → c1 < 2 →
      pair_cost c0 c1 (opposite r) ≡ cost re im (phasor_of (1 - c0) (1 - c1))
  opposite_cost zero zero h g = priced.of_11
  opposite_cost zero (suc zero) h g = priced.of_10
  opposite_cost zero (suc (suc c1)) h g = absurd (omega arith)
  opposite_cost (suc zero) zero h g = priced.of_01
  opposite_cost (suc zero) (suc zero) h g = priced.of_00
  opposite_cost (suc zero) (suc (suc c1)) h g = absurd (omega arith)
  opposite_cost (suc (suc c0)) c1 h g = absurd (omega arith)
