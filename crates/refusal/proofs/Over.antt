-- Writing over the front of a list, piece by piece, and all that an accepted call writes. For any type of elements. Assumes nothing.
use mathlib.Core.List.{List, [], ◌∷◌, ◌++◌, append-nil}
use mathlib.Core.Path.{◌≡◌, refl, sym, ap, ◌∙◌}
use Prim.Native.Nat.{ℕ, suc, ◌≤◌, ◌<◌}
use native.Mathlib.Numerals.{add-one}
use native.Mathlib.Omega.{arith}
use lib.ListN.{length, drop, take, set, length-append, length-drop, take-append-drop}
use lib.Seq.{length-take-le, take-append_seam, drop-append-add, drop-drop, set_split, append_snoc}
use Rattle.refusal.specs.Answer.{Said, accepted, refused}
use Rattle.refusal.specs.Lent.{over, leaves, Lent, Writes, WritesBoth}

module _ {B : Type 0} where
  pub over_none : (old : List B) → old ≡ over [] old
  unfolding over
  over_none old = refl

  -- a piece written behind the front that is written already
  pub over_more :
      (front piece old : List B) (at : ℕ) → at ≡ length front →
      over (take at (over front old) ++ piece) (over front old) ≡ over (front ++ piece) old
  unfolding over
  over_more front piece old at e =
      rw (
        e,
        take-append_seam front (drop (length front) old),
        length-append front piece,
        drop-append-add front (drop (length front) old) (length piece),
      )
      (ap (λ (l : List B). (front ++ piece) ++ l) (drop-drop (length piece) (length front) old))

  -- nothing written at a place, and one element
  pub over_kept : (l : List B) (at : ℕ) → at ≤ length l → l ≡ over (take at l ++ []) l
  unfolding over
  over_kept l at h =
      sym (rw (append-nil (take at l), length-take-le at l h) (take-append-drop at l))

  pub over_set : (l : List B) (at : ℕ) (v : B) → at < length l → set l at v ≡ over (take at l ++ v ∷ []) l
  unfolding over
  over_set l at v h =
      rw (length-append (take at l) (v ∷ []), length-take-le at l (omega arith), add-one at)
      (set_split l at v h ∙ sym (append_snoc (take at l) v (drop (suc at) l)))

  pub length_over : (new old : List B) → length new ≤ length old → length (over new old) ≡ length old
  unfolding over
  length_over new old h = simp (length-append, length-drop) (omega arith)

  -- an accepted call that put n elements at the front, and kept what lies beyond
  pub accepted_leaves :
      {A : Type 0} (said : Said A) (a : A) → said ≡ accepted a →
      (put : List B) (n : ℕ) → length put ≡ n → (new old : List B) → new ≡ put ++ drop n old →
      new ≡ leaves said put old
  unfolding over
  accepted_leaves {A} said a accepts put n sized new old e =
      e ∙ ap (λ (m : ℕ). put ++ drop m old) (sym sized) ∙ ap (λ (s : Said A). leaves s put old) (sym accepts)

-- ---- how a promise is kept

module _ {A B : Type 0} {Answers : Said A → Type 0} {said : Said A} {new : List B} {out : Lent B} where
  -- by a refusal, which leaves the buffer as it was
  pub writes_refused :
      {number place : ℕ} → said ≡ refused number place → Answers (refused number place) →
      out.left ≡ out.given → Writes Answers said new out
  writes_refused e answer same = rw e (record { answer = answer; output = same })

  -- by an answer, with what it says written over the front
  pub writes_accepted :
      {a : A} → said ≡ accepted a → Answers (accepted a) → out.left ≡ over new out.given →
      Writes Answers said new out
  writes_accepted e answer written = rw e (record { answer = answer; output = written })

  -- the same of two buffers
  module _ {rows : List B} {work : Lent B} where
    pub both_refused :
        {number place : ℕ} → said ≡ refused number place → Answers (refused number place) →
        out.left ≡ out.given → work.left ≡ work.given → WritesBoth Answers said new out rows work
    both_refused e answer same same' = rw e (record { answer = answer; output = same; scratch = same' })

    pub both_accepted :
        {a : A} → said ≡ accepted a → Answers (accepted a) → out.left ≡ over new out.given →
        work.left ≡ over rows work.given → WritesBoth Answers said new out rows work
    both_accepted e answer written filled = rw e (record { answer = answer; output = written; scratch = filled })
