-- `trellis::ones_in`: the count is that of the columns passed. Assumes nothing.
use Rattle.std.proofs.Common.{ℕ, ◌≡◌, take}
use Rattle.std.specs.List.{count_by}
use lib.Dec.{eqb}
use Rattle.trellis.proofs.ones_in.Given as goal

abbrev pub invariant-loop-x : goal.invariant-loop-x
invariant-loop-x l = l.count ≡ count_by (λ (x : ℕ). eqb x 1) (take l.x-index l.row)
