-- A decoding's symbols as the one list of components which the definitions are about: how many are there, and that each is that
-- list's where it lies. Assumes nothing.
use mathlib.Core.List.{List, [], append-nil}
use mathlib.Core.Path.{◌≡◌}
use Prim.Native.Nat.{ℕ, ◌+◌, ◌*◌, ◌≤◌}
use native.Mathlib.Omega.{arith}
use lib.Ieee.{Float}
use lib.ListN.{length}
use Rattle.refusal.specs.Limits.{most}
use Rattle.symbols.specs.Inner.{components, Counted, symbol_at}
use Rattle.symbols.specs.Said.{phasors_of}
use Rattle.symbols.proofs.Hard.{length-phasors, phasor_at, pair_symbol}

-- ---- components at hand

pub no_bits : (soft : List Float) → components soft [] ≡ soft
unfolding phasors_of
no_bits soft = append-nil soft

pub soft_counted : (soft : List Float) {count : ℕ} → count ≤ most → 2 * count ≤ length soft → Counted (components soft []) count
soft_counted soft few h = rw (no_bits soft) (record { few = few; all_there = h })

pub soft_there : (soft : List Float) {count : ℕ} → Counted (components soft []) count → 2 * count ≤ length soft
soft_there soft counted = rw (no_bits soft) at counted.all_there

pub soft_symbol : (soft : List Float) (t : ℕ) → symbol_at soft t ≡ symbol_at (components soft []) t
soft_symbol soft t = rw (no_bits soft)

-- ---- hard bits

pub hard_counted : (bits : List ℕ) {count : ℕ} → count ≤ most → 2 * count ≤ length bits → Counted (components [] bits) count
hard_counted bits few h = record { few = few; all_there = omega (arith, length-phasors bits, h) }

pub hard_there : (bits : List ℕ) {count : ℕ} → Counted (components [] bits) count → 2 * count ≤ length bits
hard_there bits counted = omega (arith, length-phasors bits, counted.all_there)

pub hard_symbol :
    (bits : List ℕ) (t : ℕ) → Counted (components [] bits) (t + 1) → phasor_at bits t ≡ symbol_at (components [] bits) t
hard_symbol bits t counted = pair_symbol bits t (hard_there bits counted)
