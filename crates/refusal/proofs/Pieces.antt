-- Pieces put one behind the other over the front of a list. For any type of elements. Assumes nothing.
use mathlib.Core.List.{List, [], ◌++◌}
use mathlib.Core.Path.{◌≡◌, refl, sym, ap, ◌∙◌}
use Prim.Native.Nat.{ℕ, ◌≤◌}
use native.Mathlib.Omega.{arith}
use lib.ListN.{length, take, length-append}
use lib.Seq.{length-take-le}
use Rattle.refusal.specs.Lent.{over, Lent, RoomFor, PutsAt}
use Rattle.refusal.proofs.Over.{over_none, over_more, length_over}

module _ {B : Type 0} where
  -- `out` is `front` over the front of `old` and as long as it, and `at` is the place behind `front`
  pub record Fronted (front old out : List B) (at : ℕ) : Type 0 where
    pub place : at ≡ length front
    pub list : out ≡ over front old
    pub size : length out ≡ length old

  pub fronted_none : (old : List B) → Fronted [] old old 0
  fronted_none old = record { place = refl; list = over_none old; size = refl }

  -- a put keeps the length
  pub put_sized :
      {piece : List B} {at next : ℕ} {put : Lent B} → RoomFor piece at put.given → PutsAt piece at next put →
      length put.left ≡ length put.given
  put_sized {piece} {at} {next} {put} room puts =
      let new = take at put.given ++ piece in
      let fits : length new ≤ length put.given =
      simp length-append (omega (arith, length-take-le at put.given (omega arith))) in
      ap length puts.output ∙ length_over new put.given fits

  -- a put at the place behind the front adds its piece to the front
  pub put_adds :
      {front old piece : List B} {at next : ℕ} {put : Lent B} →
      Fronted front old put.given at → PutsAt piece at next put → length put.left ≡ length put.given →
      Fronted (front ++ piece) old put.left next
  put_adds {front} {old} {piece} {at} f puts size =
      record {
        place = puts.place ∙ rw f.place (sym (length-append front piece));
        list = puts.output ∙ rw f.list (over_more front piece old at f.place);
        size = size ∙ f.size;
      }
