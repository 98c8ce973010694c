-- When a zero ends the word, in either reader. Assumes nothing.
use mathlib.Core.Bool.{Bool, true, false, and-false, or-false}
use mathlib.Core.Path.{◌≡◌}
use Prim.Native.Nat.{◌<◌}
use native.Mathlib.Omega.{arith}
use borrow.Author.Tests.{ne_eqb}
use Rattle.varicode_reader.specs.Reader.{Heard, zero_ends}

module _ (p : Bool) (h : Heard) where
  pub ends_after_zero : h.prev_zero ≡ true → zero_ends p h ≡ true
  unfolding zero_ends
  ends_after_zero after = rw after

  pub goes_on_in_a_word : h.prev_zero ≡ false → 0 < h.len → zero_ends p h ≡ false
  unfolding zero_ends
  goes_on_in_a_word after some = rw (after, ne_eqb h.len 0 (λ e. omega arith)) (and-false p)

-- document 01's reader
pub old_ends : (h : Heard) → zero_ends false h ≡ h.prev_zero
unfolding zero_ends
old_ends h = or-false h.prev_zero
