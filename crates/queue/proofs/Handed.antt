-- Taking out of a queue within its array, over any capacity: its front comes out, and the rest stays in order. Assumes nothing.
use mathlib.Core.Bool.{Bool, true, false, cond}
use mathlib.Core.List.{List, [], ◌∷◌, ◌++◌, append_assoc}
use mathlib.Core.Logic.{⊎_elim}
use mathlib.Core.Path.{◌≡◌, refl, sym, ap, ◌∙◌}
use Prim.Native.Nat.{ℕ, suc, ◌<◌}
use native.Mathlib.Nat.{eq-zero-or-pos}
use native.Mathlib.Omega.{arith}
use borrow.Author.Tests.{eqb-false}
use lib.Dec.{eqb}
use Rattle.queue.specs.Ring.{Ring, InRange, front, rest, inside}
use Rattle.queue.specs.Take.{taken, left}
use Rattle.queue.proofs.Rings.{read_in_range, rest_in_range, inside_rest}
use Rattle.queue.proofs.Takes.{taken_front, left_rest}

module _ (cap : ℕ) (p : Ring) (whole : InRange cap p) where
  -- a test on the count settles what is taken
  one_means_some : (v : ℕ) (none : Bool) → cond none [] (front p ∷ []) ≡ v ∷ [] → (none ≡ false) × (front p ≡ v)
  one_means_some v true e = absurd (let z : ◌≡◌ {A = ℕ} 0 1 = cc in omega arith)
  one_means_some v false e = (refl, cc)

  none_means_empty : (none : Bool) → cond none [] (front p ∷ []) ≡ [] → none ≡ true
  none_means_empty true e = refl
  none_means_empty false e = absurd (let z : ◌≡◌ {A = ℕ} 0 1 = cc in omega arith)

  taken_read : taken cap p ≡ cond (eqb p.count 0) [] (front p ∷ [])
  unfolding taken
  taken_read = ap (λ (q : Ring). cond (eqb q.count 0) [] (front q ∷ [])) (read_in_range whole)

  left_read : left cap p ≡ cond (eqb p.count 0) p (rest cap p)
  unfolding left
  left_read = ap (λ (q : Ring). cond (eqb q.count 0) p (rest cap q)) (read_in_range whole)

  pub record Handed (v : ℕ) : Type 0 where
    pub left_in_range : InRange cap (left cap p)
    pub order : inside cap p ≡ v ∷ inside cap (left cap p)

  pub handed : (v : ℕ) → taken cap p ≡ v ∷ [] → Handed v
  handed v e =
      let settled = one_means_some v (eqb p.count 0) (sym taken_read ∙ e) in
      let some : 0 < p.count =
      ⊎_elim (λ (z : p.count ≡ 0). absurd (eqb-false _ _ settled.0 z)) (λ (h : 0 < p.count). h) (eq-zero-or-pos p.count) in
      let same : left cap p ≡ rest cap p = left_read ∙ ap (λ (b : Bool). cond b p (rest cap p)) settled.0 in
      record {
        left_in_range = rw same (rest_in_range whole some);
        order = inside_rest whole some ∙ rw (same, settled.1);
      }

  pub kept : taken cap p ≡ [] → left cap p ≡ p
  kept e = left_read ∙ ap (λ (b : Bool). cond b p (rest cap p)) (none_means_empty (eqb p.count 0) (sym taken_read ∙ e))

-- one that holds something hands its front out, and holds one fewer
module _ {cap : ℕ} {p : Ring} (whole : InRange cap p) {n : ℕ} (holds : p.count ≡ suc n) where
  some : p.count ≡ 0 → ⊥
  some none = omega arith

  pub front_taken : taken cap p ≡ front p ∷ []
  front_taken = taken_front cap p p (sym (read_in_range whole)) some

  pub one_fewer : (left cap p).count ≡ n
  one_fewer =
      ap (λ (q : Ring). q.count) (left_rest cap p p (sym (read_in_range whole)) some) ∙ omega arith

-- an element that moved from the front of a list to the end of the one before it
pub behind : (out : List ℕ) (v : ℕ) (l : List ℕ) → (out ++ v ∷ []) ++ l ≡ out ++ v ∷ l
behind out v l = append_assoc out (v ∷ []) l
