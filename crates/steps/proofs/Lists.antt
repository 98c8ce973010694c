-- Lists of numbers, and of what they stand for. Assumes nothing.
use mathlib.Core.List.{List, [], ◌∷◌, map}
use mathlib.Core.Path.{◌≡◌, refl, ap}
use Prim.Native.Nat.{ℕ, zero, suc}
use lib.ListN.{set, replicate}

-- a store to a list of numbers is one to the list of what they stand for
pub map-set : {A B : Type 0} (f : A → B) (list : List A) (i : ℕ) (x : A) → map f (set list i x) ≡ set (map f list) i (f x)
map-set f [] i x = refl
map-set f (y ∷ ys) zero x = refl
map-set {A} {B} f (y ∷ ys) (suc i) x = ap (λ (l : List B). f y ∷ l) (map-set f ys i x)

pub map-replicate : {A B : Type 0} (f : A → B) (n : ℕ) (x : A) → map f (replicate n x) ≡ replicate n (f x)
map-replicate f zero x = refl
map-replicate {A} {B} f (suc n) x = ap (λ (l : List B). f x ∷ l) (map-replicate f n x)
