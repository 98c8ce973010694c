-- What is inside a ring of any capacity, and that it stays whole, after each of its steps. Assumes nothing.
use mathlib.Core.List.{List, [], ◌∷◌, ◌++◌, append_assoc, append-nil}
use mathlib.Core.Logic.{⊎_elim}
use mathlib.Core.Path.{◌≡◌, refl, sym, ap, ap₂, subst, ◌∙◌}
use Prim.Native.Nat.{ℕ, zero, suc, ◌+◌, ◌-◌, ◌%◌, ◌≤◌, ◌<◌}
use native.Mathlib.Nat.{mod-lt, mod-eq_of_lt, mod-add-mod, mod-eq-sub-mod, eq-zero-or-pos}
use native.Mathlib.Numerals.{add-one}
use native.Mathlib.Omega.{arith}
use lib.ListN.{length, get_or, set, length-set, length-replicate}
use lib.Seq.{get_or-set_same, get_or-set_other}
use Rattle.queue.specs.Ring.{Ring, InRange, empty, read_as, put_one, put_all, front, rest, elements, inside}
use Rattle.queue.specs.Inner.{Room}

-- ---- places, going round

-- the m-th place behind another is not that one again
around_other : {cap at m : ℕ} → at < cap → 0 < m → m < cap → at ≡ (at + m) % cap → ⊥
around_other {cap} {at} {m} h some g e =
    ⊎_elim
    (λ (inner : suc (at + m) - cap ≡ 0). omega (arith, mod-eq_of_lt {n = at + m} {m = cap} (omega arith)))
    (λ (over : 0 < suc (at + m) - cap).
    omega (arith, mod-eq-sub-mod {n = at + m} {m = cap} (omega arith), mod-eq_of_lt {n = at + m - cap} {m = cap} (omega arith)))
    (eq-zero-or-pos (suc (at + m) - cap))

-- one place on, and n more
around_suc : (cap at n : ℕ) → ((at + 1) % cap + n) % cap ≡ (at + suc n) % cap
around_suc cap at n = mod-add-mod (at + 1) cap n ∙ ap (λ (m : ℕ). m % cap) (omega arith)

-- ---- elements from a place on

module _ (cap : ℕ) (slots : List ℕ) where
  elements_snoc :
      (at n : ℕ) → at < cap →
      elements cap slots at (suc n) ≡ elements cap slots at n ++ get_or slots ((at + n) % cap) 0 ∷ []
  unfolding elements
  elements_snoc at zero h =
      let here : (at + 0) % cap ≡ at = ap (λ (m : ℕ). m % cap) (omega arith) ∙ mod-eq_of_lt h in
      rw here
  elements_snoc at (suc n) h =
      ap (◌∷◌ (get_or slots at 0))
      (elements_snoc ((at + 1) % cap) n (mod-lt (at + 1) (omega arith))
      ∙ ap (λ (m : ℕ). elements cap slots ((at + 1) % cap) n ++ get_or slots m 0 ∷ []) (around_suc cap at n))

  -- an element at a place behind them is none of them
  elements_set :
      (v at n m : ℕ) → at < cap → n ≤ m → m < cap →
      elements cap (set slots ((at + m) % cap) v) at n ≡ elements cap slots at n
  unfolding elements
  elements_set v at zero m h f g = refl
  elements_set v at (suc n) zero h f g = elim f [ ]
  elements_set v at (suc n) (suc m) h f g =
      ap₂ ◌∷◌
      (get_or-set_other slots ((at + suc m) % cap) at v 0 (around_other h (omega arith) g))
      (subst (λ (p : ℕ). elements cap (set slots p v) ((at + 1) % cap) n ≡ elements cap slots ((at + 1) % cap) n)
      (around_suc cap at m)
      (elements_set v ((at + 1) % cap) n m (mod-lt (at + 1) (omega arith)) (omega arith) (omega arith)))

-- ---- a new ring, and one that is read

pub empty_in_range : {cap : ℕ} → 0 < cap → InRange cap (empty cap)
empty_in_range {cap} some = record { size = length-replicate cap 0; head = some; count = omega arith }

pub inside_empty : (cap : ℕ) → inside cap (empty cap) ≡ []
unfolding inside
inside_empty cap = refl

-- any record is safe once it is read
pub read_room : {cap : ℕ} → 0 < cap → (r : Ring) → Room cap (read_as cap r) 0
read_room {cap} some r =
    record { head = mod-lt r.head some; count = omega (arith, mod-lt r.count {m = cap + 1} (omega arith)) }

-- a whole record is read as it stands
pub read_in_range : {cap : ℕ} {r : Ring} → InRange cap r → read_as cap r ≡ r
read_in_range {cap} {r} w = rw (mod-eq_of_lt w.head, mod-eq_of_lt {n = r.count} {m = cap + 1} (omega arith))

-- ---- putting in

module _ {cap : ℕ} {r : Ring} (w : InRange cap r) (room : r.count < cap) (v : ℕ) where
  pub put_in_range : InRange cap (put_one cap r v)
  put_in_range = record { size = length-set r.slots ((r.head + r.count) % cap) v ∙ w.size; head = w.head; count = omega arith }

  pub inside_put : inside cap (put_one cap r v) ≡ inside cap r ++ v ∷ []
  unfolding inside
  inside_put =
      let at : ℕ = (r.head + r.count) % cap in
      let within : at < length r.slots = rw w.size (mod-lt (r.head + r.count) (omega arith)) in
      let others = elements_set cap r.slots v r.head r.count r.count w.head (omega arith) room in
      let last = elements_snoc cap (set r.slots at v) r.head r.count w.head in
      rw (add-one r.count, last, others, get_or-set_same r.slots at v 0 within)

pub put_all-append : (cap : ℕ) (r : Ring) (xs ys : List ℕ) → put_all cap r (xs ++ ys) ≡ put_all cap (put_all cap r xs) ys
unfolding put_all
put_all-append cap r [] ys = refl
put_all-append cap r (x ∷ xs) ys = put_all-append cap (put_one cap r x) xs ys

pub put_all-head : (cap : ℕ) (r : Ring) (vs : List ℕ) → (put_all cap r vs).head ≡ r.head
unfolding put_all
put_all-head cap r [] = refl
put_all-head cap r (v ∷ vs) = put_all-head cap (put_one cap r v) vs

pub put_all-count : (cap : ℕ) (r : Ring) (vs : List ℕ) → (put_all cap r vs).count ≡ r.count + length vs
unfolding put_all
put_all-count cap r [] = omega arith
put_all-count cap r (v ∷ vs) = omega (arith, put_all-count cap (put_one cap r v) vs)

pub put_all-room : {cap : ℕ} {r : Ring} (vs : List ℕ) {n : ℕ} → Room cap r (length vs + n) → Room cap (put_all cap r vs) n
put_all-room {cap} {r} vs room =
    record { head = rw (put_all-head cap r vs) room.head; count = omega (arith, put_all-count cap r vs) }

pub put_all-in_range : {cap : ℕ} {r : Ring} → InRange cap r → (vs : List ℕ) → r.count + length vs ≤ cap → InRange cap (put_all cap r vs)
unfolding put_all
put_all-in_range w [] room = w
put_all-in_range {cap = cap} {r = r} w (v ∷ vs) room =
    put_all-in_range {r = put_one cap r v} (put_in_range w (omega arith) v) vs (omega arith)

pub inside_put_all :
    {cap : ℕ} {r : Ring} → InRange cap r → (vs : List ℕ) → r.count + length vs ≤ cap →
    inside cap (put_all cap r vs) ≡ inside cap r ++ vs
unfolding put_all
inside_put_all {cap} {r} w [] room = sym (append-nil (inside cap r))
inside_put_all {cap} {r} w (v ∷ vs) room =
    inside_put_all {r = put_one cap r v} (put_in_range w (omega arith) v) vs (omega arith)
    ∙ ap (λ (xs : List ℕ). xs ++ vs) (inside_put w (omega arith) v)
    ∙ append_assoc (inside cap r) (v ∷ []) vs

-- ---- taking out

module _ {cap : ℕ} {r : Ring} (w : InRange cap r) (some : 0 < r.count) where
  pub rest_in_range : InRange cap (rest cap r)
  rest_in_range = record { size = w.size; head = mod-lt (r.head + 1) (omega arith); count = omega arith }

  pub inside_rest : inside cap r ≡ front r ∷ inside cap (rest cap r)
  unfolding inside elements
  inside_rest =
      let more : r.count ≡ suc (r.count - 1) = omega arith in
      ap (elements cap r.slots r.head) more
