-- Taking out of a queue that was read and holds some: its front. Over any capacity. Assumes nothing.
use mathlib.Core.Bool.{false}
use mathlib.Core.List.{[], ◌∷◌}
use mathlib.Core.Path.{◌≡◌, sym, ap, ◌∙◌}
use Prim.Native.Nat.{ℕ}
use borrow.Author.Tests.{ne_eqb}
use lib.Dec.{eqb}
use Rattle.queue.specs.Ring.{Ring, read_as, front, rest}
use Rattle.queue.specs.Take.{taken, left}

module _ (cap : ℕ) (q p : Ring) (read : q ≡ read_as cap p) (some : q.count ≡ 0 → ⊥) where
  filled : eqb (read_as cap p).count 0 ≡ false
  filled = ne_eqb (read_as cap p).count 0 (λ e. some (ap (λ (r : Ring). r.count) read ∙ e))

  pub taken_front : taken cap p ≡ front q ∷ []
  unfolding taken
  taken_front = rw filled (ap (λ (r : Ring). front r ∷ []) (sym read))

  pub left_rest : left cap p ≡ rest cap q
  unfolding left
  left_rest = rw filled (ap (λ (r : Ring). rest cap r) (sym read))
