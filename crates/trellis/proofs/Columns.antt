-- A keep pattern as the code holds it: what it keeps and how much, read off its rows. Assumes nothing.
use mathlib.Core.Bool.{Bool, true, false, cond}
use mathlib.Core.List.{List}
use mathlib.Core.Path.{◌≡◌, refl, sym, ap, ap₂, ◌∙◌}
use Prim.Native.Nat.{ℕ, ◌+◌, ◌*◌, ◌/◌, ◌%◌, ◌≤◌, ◌<◌}
use native.Mathlib.Nat.{zero-add, mod-lt, mod-add-mod}
use native.Mathlib.Omega.{arith}
use lib.Dec.{eqb}
use lib.ListN.{length, get_or, take}
use lib.Seq.{length-take-le, take-take, get_or-take}
use Rattle.std.specs.List.{count_by}
use Rattle.std.proofs.lemmas.List.Recursion.{is_count_by}
use Rattle.std.proofs.lemmas.List.Sums.{count_by-le-length}
use Rattle.trellis.specs.declared.KeepPattern.{KeepPattern}
use Rattle.trellis.specs.Choice.{keep_of}
use Rattle.trellis.specs.Keep.{Pattern, keeps_by, keeps0, keeps1, ones_of, coded_length}
use Rattle.trellis.specs.Inner.{Rows, OnesIn, OnesOfColumns}

-- what a row keeps, from its first n columns
keeps_front : (row : List ℕ) (n t : ℕ) → 0 < n → n ≤ length row → keeps_by (take n row) t ≡ eqb (get_or row (t % n) 0) 1
unfolding keeps_by
keeps_front row n t some room = rw (length-take-le n row room) (ap (λ (v : ℕ). eqb v 1) (get_or-take n row (t % n) 0 (mod-lt t some)))

module _ (m : KeepPattern) (rows : Rows m) where
  abbrev n : ℕ
  n = m.period

  pub rows_pattern : Pattern (keep_of m)
  unfolding keep_of
  rows_pattern =
      let upper = length-take-le n m.row0 rows.room0 in
      let lower = length-take-le n m.row1 rows.room1 in
      record { some = rw upper rows.some; equal = lower ∙ sym upper }

  pub keeps0_column : (t : ℕ) → keeps0 (keep_of m) t ≡ eqb (get_or m.row0 (t % n) 0) 1
  unfolding keep_of
  keeps0_column t = keeps_front m.row0 n t rows.some rows.room0

  pub keeps1_column : (t : ℕ) → keeps1 (keep_of m) t ≡ eqb (get_or m.row1 (t % n) 0) 1
  unfolding keep_of
  keeps1_column t = keeps_front m.row1 n t rows.some rows.room1

  -- the ones in the first k columns of both rows
  abbrev both : ℕ → ℕ
  both k = ones_of (take k m.row0) + ones_of (take k m.row1)

  coded_columns : (t : ℕ) → coded_length (keep_of m) t ≡ t / n * both n + both (t % n)
  unfolding coded_length keep_of
  coded_columns t =
      let begun : t % n ≤ n = omega (arith, mod-lt t rows.some) in
      let front : ℕ → ℕ =
      λ (k : ℕ). ones_of (take (t % k) (take n m.row0)) + ones_of (take (t % k) (take n m.row1)) in
      ap (λ (k : ℕ). t / k * both n + front k) (length-take-le n m.row0 rows.room0)
      ∙ ap₂ (λ (x y : ℕ). t / n * both n + (x + y))
      (ap ones_of (take-take (t % n) n m.row0 begun)) (ap ones_of (take-take (t % n) n m.row1 begun))

-- a counter of columns that goes round is the step mod the period
pub column_next : (n t column next : ℕ) → column ≡ t % n → next ≡ (column + 1) % n → next ≡ (t + 1) % n
column_next n t column next e f = f ∙ ap (λ (k : ℕ). (k + 1) % n) e ∙ mod-add-mod t n 1

-- ---- counting the ones of a row

one_more : (b : Bool) (n : ℕ) → cond b 1 0 + n ≡ cond b (1 + n) n
one_more true n = refl
one_more false n = zero-add n

ones-count : (row : List ℕ) → ones_of row ≡ count_by (λ (x : ℕ). eqb x 1) row
unfolding ones_of
ones-count row = is_count_by ones_of (λ (x : ℕ). eqb x 1) refl (λ x xs. one_more (eqb x 1) (ones_of xs)) row

pub ones_counted : (row : List ℕ) {r : ℕ} → r ≡ count_by (λ (x : ℕ). eqb x 1) row → OnesIn row r
ones_counted row e =
    record { counted = e ∙ sym (ones-count row); few = omega (arith, e, count_by-le-length (λ (x : ℕ). eqb x 1) row) }

-- ---- the coded length, term by term

pub coded_terms :
    {keep : KeepPattern} (steps : ℕ) {a b : ℕ} → Rows keep →
    OnesOfColumns keep keep.period a → OnesOfColumns keep (steps % keep.period) b →
    steps / keep.period * a + b ≡ coded_length (keep_of keep) steps
coded_terms {keep} steps rows whole begun = rw (whole.counted, begun.counted) (sym (coded_columns keep rows steps))
