-- `encoder::put`: a kept bit is set at its place, one that is deleted is not. Assumes nothing.
use mathlib.Core.List.{[], ◌∷◌}
use mathlib.Core.Path.{◌≡◌, ap}
use Prim.Native.Nat.{ℕ}
use native.Mathlib.Omega.{arith}
use borrow.Author.Tests.{eq-eqb, ne_eqb}
use lib.ListN.{length}
use Rattle.refusal.proofs.Over.{over_set, over_kept}
use Rattle.encoder.specs.Inner.{kept_by}
use Rattle.encoder.proofs.put.Goals as goal

kept : (column bit : ℕ) → column ≡ 1 → kept_by column bit ≡ bit ∷ []
kept column bit h = rw (eq-eqb column 1 h)

deleted : (column bit : ℕ) → (column ≡ 1 → ⊥) → kept_by column bit ≡ []
deleted column bit h = rw (ne_eqb column 1 h)

pub bounds-out-at : goal.bounds-out-at
bounds-out-at c = omega (arith, ap length (kept c.args.column c.args.bit c.if-column-eq1.true))

pub returns-then-column-eq1 : goal.returns-then-column-eq1
returns-then-column-eq1 c =
    let args = c.args in
    let sent = kept args.column args.bit c.if-column-eq1.true in
    record { place = rw sent; output = rw sent (over_set args.out.now args.at args.bit (omega (arith, ap length sent))) }

pub returns-else-column-eq1 : goal.returns-else-column-eq1
returns-else-column-eq1 c =
    let args = c.args in
    let sent = deleted args.column args.bit c.if-column-eq1.false in
    record { place = rw sent (omega arith); output = rw sent (over_kept args.out.now args.at (omega (arith, ap length sent))) }
