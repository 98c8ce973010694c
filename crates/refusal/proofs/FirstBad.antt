-- The index of the first bad value of a list, found by looking at one after the other; it is the place of refusals 6 and 7.
-- Over any test of any kind of value; what a read past the end would give, d, is not seen. Assumes nothing.
use mathlib.Core.Bool.{Bool, true, false, cond, not}
use mathlib.Core.List.{List, [], ◌∷◌}
use mathlib.Core.Path.{◌≡◌, refl, ap, sym, subst, ◌∙◌}
use Prim.Native.Nat.{ℕ, zero, suc, ◌+◌, ◌≤◌, ◌<◌}
use native.Mathlib.Omega.{arith}
use borrow.Author.Tests.{lt-ltb, le-ltb, ltb-true, ltb-false}
use lib.Dec.{T, ltb}
use lib.ListN.{length, get_or, drop, drop_of_length-le}
use Rattle.refusal.specs.Answer.{Said, accepted, refused}
use Rattle.std.specs.List.{position, position_or_len}
use Rattle.std.specs.Prelude.{Some, None}
use Rattle.refusal.specs.First.{first_bad, FindsBad, refuse_at_bad}

next-is : {E : Type 0} (d : E) (i : ℕ) (xs : List E) → i < length xs → drop i xs ≡ get_or xs i d ∷ drop (suc i) xs
next-is d zero [] h = absurd (omega (arith, h))
next-is d (suc i) [] h = absurd (omega (arith, h))
next-is d zero (x ∷ xs) h = refl
next-is d (suc i) (x ∷ xs) h = next-is d i xs (omega arith)

module _ {E : Type 0} (is_good : E → Bool) where
  -- The invariant of a search: the first i values are good, so the first bad one is the first from there on.
  pub record Sought (xs : List E) (i : ℕ) : Type 0 where
    pub reached : i ≤ length xs
    pub ahead : first_bad is_good xs ≡ i + first_bad is_good (drop i xs)

  pub sought_starts : {xs : List E} → Sought xs 0
  sought_starts = record { reached = omega arith; ahead = omega arith }

  module _ {xs : List E} {i : ℕ} (sought : Sought xs i) where
    -- the search is through
    pub none_found : length xs ≤ i → length xs ≡ first_bad is_good xs
    unfolding first_bad
    none_found past =
        let nothing : first_bad is_good (drop i xs) ≡ 0 = ap (first_bad is_good) (drop_of_length-le xs past) in
        omega (arith, nothing, sought.reached, sought.ahead)

    -- the value at i is looked at
    module _ (d : E) (h : i < length xs) where
      look :
          (good : Bool) → good ≡ is_good (get_or xs i d) →
          first_bad is_good (drop i xs) ≡ cond good (suc (first_bad is_good (drop (suc i) xs))) 0
      unfolding first_bad
      look good e =
          ap (first_bad is_good) (next-is d i xs h)
          ∙ ap (λ (b : Bool). cond b (suc (first_bad is_good (drop (suc i) xs))) 0) (sym e)

      pub found_here : {good : Bool} → good ≡ is_good (get_or xs i d) → not good ≡ true → i ≡ first_bad is_good xs
      found_here {good = true} e bad = absurd (subst T (sym bad) tt)
      found_here {good = false} e bad = omega (arith, look false e, sought.ahead)

      pub sought_goes_on : {good : Bool} → good ≡ is_good (get_or xs i d) → not good ≡ false → Sought xs (i + 1)
      sought_goes_on {good = true} e fine =
          let next : suc i ≡ i + 1 = omega arith in
          let one : first_bad is_good xs ≡ suc i + first_bad is_good (drop (suc i) xs) = omega (arith, look true e, sought.ahead) in
          record { reached = omega arith; ahead = rw next at one }
      sought_goes_on {good = false} e fine = absurd (subst T fine tt)

  -- the refusal, by an index that was found
  module _ {A : Type 0} (number : ℕ) (xs : List E) (rest : Said A) (bad : ℕ) (found : bad ≡ first_bad is_good xs) where
    pub some_bad : bad < length xs → refuse_at_bad number is_good xs rest ≡ refused number bad
    some_bad h = rw (← found, lt-ltb bad (length xs) h)

    pub none_bad : length xs ≤ bad → refuse_at_bad number is_good xs rest ≡ rest
    none_bad h = rw (← found, le-ltb bad (length xs) h)

  -- where all are good, there is none
  pub all_good :
      (d : E) (xs : List E) → ((i : ℕ) → i < length xs → is_good (get_or xs i d) ≡ true) → first_bad is_good xs ≡ length xs
  unfolding first_bad
  all_good d [] each = refl
  all_good d (x ∷ xs) each = rw (each 0 (omega arith)) (ap suc (all_good d xs (λ i h. each (suc i) (omega arith))))

  -- those before the first bad one are good
  pub good_before : (d : E) (xs : List E) (i : ℕ) → i < first_bad is_good xs → is_good (get_or xs i d) ≡ true
  unfolding first_bad
  good_before d [] i h = absurd (omega (arith, h))
  good_before d (x ∷ xs) i h = go (is_good x) refl i (λ j k. good_before d xs j k) h
    where
      go :
          (good : Bool) → is_good x ≡ good → (j : ℕ) →
          ((k : ℕ) → k < first_bad is_good xs → is_good (get_or xs k d) ≡ true) →
          j < cond good (suc (first_bad is_good xs)) 0 → is_good (get_or (x ∷ xs) j d) ≡ true
      go true e zero behind k = e
      go true e (suc j) behind k = behind j (omega arith)
      go false e j behind k = absurd (omega (arith, k))

  -- what is accepted has no bad one
  pub accepted_all_good :
      {A : Type 0} (number : ℕ) (xs : List E) (rest : Said A) (a : A) → refuse_at_bad number is_good xs rest ≡ accepted a →
      length xs ≤ first_bad is_good xs
  accepted_all_good {A} number xs rest a e = go (ltb (first_bad is_good xs) (length xs)) refl e
    where
      go :
          (bad : Bool) → ltb (first_bad is_good xs) (length xs) ≡ bad →
          cond bad (refused number (first_bad is_good xs)) rest ≡ accepted a → length xs ≤ first_bad is_good xs
      go true h k =
          let never : ◌≡◌ {A = ℕ} 0 1 = cc in
          absurd (omega arith)
      go false h k = ltb-false (first_bad is_good xs) (length xs) h

  -- what is accepted passed the test
  pub accepted_past_bad :
      {A : Type 0} (number : ℕ) (xs : List E) (rest : Said A) (a : A) → refuse_at_bad number is_good xs rest ≡ accepted a →
      rest ≡ accepted a
  accepted_past_bad {A} number xs rest a = go (ltb (first_bad is_good xs) (length xs))
    where
      go : (b : Bool) → cond b (refused number (first_bad is_good xs)) rest ≡ accepted a → rest ≡ accepted a
      go true e = cc
      go false e = e

  -- ---- a search that answers with an `Option`

  is_position : (xs : List E) → first_bad is_good xs ≡ position_or_len (λ x. not (is_good x)) xs
  unfolding first_bad
  is_position [] = refl
  is_position (x ∷ xs) = go (is_good x) (is_position xs)
    where
      go :
          (good : Bool) → first_bad is_good xs ≡ position_or_len (λ x. not (is_good x)) xs →
          cond good (suc (first_bad is_good xs)) 0 ≡ cond (not (not good)) (1 + position_or_len (λ x. not (is_good x)) xs) 0
      go true e = omega (arith, e)
      go false e = refl

  -- the first bad value, or none where all are good
  answered :
      (xs : List E) →
      position (λ x. not (is_good x)) xs ≡ cond (ltb (first_bad is_good xs) (length xs)) (Some (first_bad is_good xs)) None
  answered xs = ap (λ n. cond (ltb n (length xs)) (Some n) None) (sym (is_position xs))

  pub finds_bad : (xs : List E) (i : ℕ) → i < length xs → i ≡ first_bad is_good xs → FindsBad is_good xs (Some i)
  finds_bad xs i inside e = rw (answered xs, ← e, lt-ltb i (length xs) inside) refl

  pub finds_none : (xs : List E) → length xs ≤ first_bad is_good xs → FindsBad is_good xs None
  finds_none xs all = rw (answered xs, le-ltb (first_bad is_good xs) (length xs) all) refl

  pub found_first : (xs : List E) (i : ℕ) → FindsBad is_good xs (Some i) → (i ≡ first_bad is_good xs) × (i < length xs)
  found_first xs i found = go (ltb (first_bad is_good xs) (length xs)) refl (found ∙ answered xs)
    where
      go :
          (b : Bool) → ltb (first_bad is_good xs) (length xs) ≡ b → Some i ≡ cond b (Some (first_bad is_good xs)) None →
          (i ≡ first_bad is_good xs) × (i < length xs)
      go true h e =
          let same : i ≡ first_bad is_good xs = cc in
          (same, omega (arith, same, ltb-true (first_bad is_good xs) (length xs) h))
      go false h e = cc

  pub found_none : (xs : List E) → FindsBad is_good xs None → length xs ≤ first_bad is_good xs
  found_none xs found = go (ltb (first_bad is_good xs) (length xs)) refl (found ∙ answered xs)
    where
      go :
          (b : Bool) → ltb (first_bad is_good xs) (length xs) ≡ b → None ≡ cond b (Some (first_bad is_good xs)) None →
          length xs ≤ first_bad is_good xs
      go true h e = cc
      go false h e = ltb-false (first_bad is_good xs) (length xs) h
