-- Tests that antt computes: that two lists are equal, and that a rule holds at all entries of a table. Over any list and test.
-- Assumes nothing.
use mathlib.Core.Bool.{Bool, true, false, ◌&&◌}
use mathlib.Core.List.{List, [], ◌∷◌}
use mathlib.Core.Path.{◌≡◌, refl, ap₂, subst}
use Prim.Native.Nat.{ℕ, zero, suc, ◌+◌, ◌<◌}
use native.Mathlib.Nat.{zero-add, le_of_suc-le-suc, not-suc-le-zero}
use native.Mathlib.Omega.{arith}
use lib.Dec.{T, eqb, eqb→eq}
use lib.ListN.{length, get_or}

pub both : (a b : Bool) → T (a && b) → T a × T b
both true b t = (tt, t)
both false b t = absurd t

-- two lists of numbers, entry by entry; lists that pass are equal
abbrev pub same : List ℕ → List ℕ → Bool
same [] [] = true
same [] (y ∷ ys) = false
same (x ∷ xs) [] = false
same (x ∷ xs) (y ∷ ys) = eqb x y && same xs ys

pub same_equal : (xs ys : List ℕ) → T (same xs ys) → xs ≡ ys
same_equal [] [] t = refl
same_equal [] (y ∷ ys) t = absurd t
same_equal (x ∷ xs) [] t = absurd t
same_equal (x ∷ xs) (y ∷ ys) t =
    let passed = both (eqb x y) (same xs ys) t in
    ap₂ (λ (n : ℕ) (ns : List ℕ). n ∷ ns) (eqb→eq x y passed.0) (same_equal xs ys passed.1)

module _ {A : Type 0} where
  -- the test passes at each entry and its place, counted from i
  abbrev pub passes : (ℕ → A → Bool) → ℕ → List A → Bool
  passes test i [] = true
  passes test i (x ∷ xs) = test i x && passes test (suc i) xs

  passes_from :
      (test : ℕ → A → Bool) (xs : List A) (i : ℕ) → T (passes test i xs) →
      (k : ℕ) (d : A) → k < length xs → T (test (i + k) (get_or xs k d))
  passes_from test [] i t k d h = absurd (not-suc-le-zero h)
  passes_from test (x ∷ xs) i t zero d h = subst (λ (n : ℕ). T (test n x)) (omega arith) (both (test i x) (passes test (suc i) xs) t).0
  passes_from test (x ∷ xs) i t (suc k) d h =
      subst (λ (n : ℕ). T (test n (get_or xs k d))) (omega arith)
      (passes_from test xs (suc i) (both (test i x) (passes test (suc i) xs) t).1 k d (le_of_suc-le-suc h))

  pub passes_at : (test : ℕ → A → Bool) (xs : List A) → T (passes test 0 xs) → (k : ℕ) (d : A) → k < length xs → T (test k (get_or xs k d))
  passes_at test xs t k d h = subst (λ (n : ℕ). T (test n (get_or xs k d))) (zero-add k) (passes_from test xs 0 t k d h)
