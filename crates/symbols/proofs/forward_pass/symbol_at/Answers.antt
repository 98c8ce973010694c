-- `symbols::forward_pass::symbol_at`: the symbol where it lies, by what kind it is. Assumes nothing.
use mathlib.Core.Path.{◌∙◌}
use native.Mathlib.Omega.{arith}
use Rattle.symbols.proofs.Components.{soft_there, soft_symbol, hard_there, hard_symbol}
use Rattle.symbols.proofs.forward_pass.symbol_at.Goals as goal

pub bounds-soft-at : goal.bounds-soft-at
bounds-soft-at c = omega (arith, soft_there _ (rw c.in-Soft.is at c.requires))

pub bounds-soft-at-in-Soft : goal.bounds-soft-at-in-Soft
bounds-soft-at-in-Soft c = omega (arith, soft_there _ (rw c.in-Soft.is at c.requires))

pub bounds-bits-at : goal.bounds-bits-at
bounds-bits-at c = omega (arith, hard_there _ (rw c.in-Hard.is at c.requires))

pub bounds-bits-at-in-Hard : goal.bounds-bits-at-in-Hard
bounds-bits-at-in-Hard c = omega (arith, hard_there _ (rw c.in-Hard.is at c.requires))

pub returns-in-Soft : goal.returns-in-Soft
returns-in-Soft c = rw c.in-Soft.is (soft_symbol c.in-Soft.soft.now c.args.t)

pub returns-in-Hard : goal.returns-in-Hard
returns-in-Hard c = rw c.in-Hard.is (c.phasor_of.ensures ∙ hard_symbol _ _ (rw c.in-Hard.is at c.requires))
