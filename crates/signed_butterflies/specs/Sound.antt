-- Metrics as the code holds them: a sum, or a number near −2^30. Sums with what a branch brings stay what they are; and
-- the larger of two stands for the better of two totals. Laws, which the implementation in src/ cites. Assumes nothing.
use mathlib.Core.Bool.{Bool, true, false, cond, not}
use mathlib.Core.Logic.{inl, inr, ⊎_elim}
use mathlib.Core.Path.{◌≡◌, refl, sym, ap, ap₂, ◌∙◌}
use Prim.Native.Nat.{ℕ, suc, ◌+◌, ◌-◌, ◌^◌, ◌≤◌, ◌<◌}
use native.Mathlib.Nat.{le_refl}
use native.Mathlib.Omega.{arith}
use borrow.Author.Tests.{ltb-true, ltb-false, lt-ltb, le-ltb}
use lib.Dec.{ltb}
use lib.IntN.{ℤ, pos, negsuc, nat_abs, ◌+ℤ◌, +ℤ_assoc, +ℤ_comm}
use lib.Signed.{lt_z}
use Rattle.best_path.specs.Path.{Total, none, total, wholes, added}
use Rattle.best_path.specs.Step.{Cell, unreached, chosen, relaxed}
use Rattle.best_path.proofs.Order.{at_most_not_below}
use Rattle.best_path.proofs.Sizes.{abs-add}
use Rattle.best_path.specs.Pair.{best_met, best_from, Sound}
use Rattle.signed_butterflies.specs.Held.{Gained, least, under_floor, floor, total_of, Near, wholes_held}

-- how far a metric is from −2^30
abbrev off : ℤ → ℕ
off x = nat_abs (x +ℤ pos 1073741824)

-- the same of −(n + 1), by which of the two is larger
abbrev off_below : ℕ → Bool → ℤ
off_below n u = cond u (negsuc (suc n - suc 1073741824)) (pos (1073741824 - suc n))

-- ---- the two kinds

off_far : (x : ℤ) → nat_abs x ≤ 1073741824 + off x
off_far (pos n) = omega arith
off_far (negsuc n) = go (ltb 1073741824 (suc n)) refl
  where
    go : (u : Bool) → ltb 1073741824 (suc n) ≡ u → suc n ≤ 1073741824 + nat_abs (off_below n u)
    go true h = omega (arith, ltb-true)
    go false h = omega (arith, ltb-false)

-- a sum is above the floor, what is near −2^30 below it
small_above : (x : ℤ) → nat_abs x ≤ 2 ^ 28 + 254 → lt_z x floor ≡ false
small_above (pos n) h = refl
small_above (negsuc n) h = le-ltb 536870911 n (omega arith)

pub off_below_lem : (x : ℤ) → off x ≤ 2 ^ 28 + 254 → lt_z x floor ≡ true
off_below_lem (pos n) h = absurd (omega arith)
off_below_lem (negsuc n) h = go (ltb 1073741824 (suc n)) refl h
  where
    go : (u : Bool) → ltb 1073741824 (suc n) ≡ u → nat_abs (off_below n u) ≤ 2 ^ 28 + 254 → ltb 536870911 n ≡ true
    go true e k = lt-ltb 536870911 n (omega (arith, ltb-true))
    go false e k = lt-ltb 536870911 n (omega (arith, ltb-false))

-- so of the two the sum is larger
below_through : (x y : ℤ) → lt_z x floor ≡ true → lt_z y floor ≡ false → lt_z x y ≡ true
below_through (pos a) y h k = cc
below_through (negsuc a) (pos b) h k = refl
below_through (negsuc a) (negsuc b) h k =
    lt-ltb b a (omega (arith, ltb-true 536870911 a h, ltb-false 536870911 b k))

not_below_through : (x y : ℤ) → lt_z x floor ≡ true → lt_z y floor ≡ false → lt_z y x ≡ false
not_below_through x y h k = at_most_not_below x y (inl (below_through x y h k))

-- ---- one branch

module _ (bound : ℕ) (few : bound ≤ 2 ^ 28) (x g : ℤ) (near : Near bound x) (gained : Gained g) where
  off_added : off (x +ℤ g) ≤ off x + nat_abs g
  off_added =
      let moved : (x +ℤ g) +ℤ pos 1073741824 ≡ (x +ℤ pos 1073741824) +ℤ g =
      +ℤ_assoc x g (pos 1073741824) ∙ ap (λ (z : ℤ). x +ℤ z) (+ℤ_comm g (pos 1073741824))
      ∙ sym (+ℤ_assoc x (pos 1073741824) g) in
      rw moved (abs-add (x +ℤ pos 1073741824) g)

  near_added : Near (bound + 254) (x +ℤ g)
  near_added =
      record {
        near =
            ⊎_elim (λ h. inl (omega (arith, h, abs-add x g, gained.small)))
            (λ h. inr (omega (arith, h, off_added, gained.small))) near.near;
      }

  added_small : nat_abs (x +ℤ g) < 2147483648
  added_small =
      ⊎_elim (λ h. omega (arith, h, abs-add x g, gained.small))
      (λ h. omega (arith, h, off_far x, abs-add x g, gained.small)) near.near

  -- the total of a sum is the sum's
  total_added : total_of (x +ℤ g) ≡ added (total_of x) g
  unfolding total_of
  total_added =
      ⊎_elim
      (λ h. rw (small_above x (omega (arith, h)), small_above (x +ℤ g) (omega (arith, h, abs-add x g, gained.small))))
      (λ h. rw (off_below_lem x (omega (arith, h)), off_below_lem (x +ℤ g) (omega (arith, h, off_added, gained.small))))
      near.near

-- ---- two branches into a state

-- a candidate that is summed already
tried_relaxed :
    (best : Cell Total) (m : Total) (g : ℤ) (t : ℕ) → chosen wholes best (added m g) t ≡ relaxed wholes best m g t
unfolding relaxed
tried_relaxed best none g t = refl
tried_relaxed best (total z) g t = refl

abbrev met : (c d : ℤ) → ℤ
met c d = cond (lt_z c d) d c

module _ (c d : ℤ) (s : ℕ) where
  abbrev from : ℕ
  from = cond (lt_z (met c d) floor) 0 (cond (lt_z c d) (s + 1) s)

  abbrev both : Cell Total
  both = chosen wholes (chosen wholes (unreached wholes) (total_of c) s) (total_of d) (s + 1)

  -- by whether either candidate is of a state that was reached
  two_tried : record { met = total_of (met c d); from = from } ≡ both
  unfolding total_of
  two_tried = go (lt_z c floor) (lt_z d floor) (lt_z c d) refl refl refl
    where
      go :
          (u v w : Bool) → lt_z c floor ≡ u → lt_z d floor ≡ v → lt_z c d ≡ w →
          record { met = total_of (met c d); from = from } ≡ both
      go true true true e f g = rw (g, f, e)
      go true true false e f g = rw (g, f, e)
      go true false w e f g = rw (below_through c d e f, f, e)
      go false true w e f g = rw (not_below_through d c f e, f, e)
      go false false true e f g = rw (g, f, e, g)
      go false false false e f g = rw (g, f, e, g)

either_near : (bound : ℕ) (b : Bool) (p q : ℤ) → Near bound p → Near bound q → Near bound (cond b p q)
either_near bound true p q h k = h
either_near bound false p q h k = k

-- none is the least number of 32 bits, so of a candidate and that the candidate is larger
above_least : (x : ℤ) → nat_abs x < 2147483648 → lt_z least x ≡ true
above_least (pos n) h = refl
above_least (negsuc n) h = lt-ltb n 2147483647 (omega (arith, h))

-- what is above −2^29 − 1 is not below −2^29
above_floor : (x : ℤ) → lt_z under_floor x ≡ not (lt_z x floor)
above_floor (pos n) = refl
above_floor (negsuc n) = go (ltb 536870911 n) refl
  where
    go : (u : Bool) → ltb 536870911 n ≡ u → ltb n 536870912 ≡ not u
    go true h = le-ltb n 536870912 (omega (arith, ltb-true 536870911 n h))
    go false h = lt-ltb n 536870912 (omega (arith, ltb-false 536870911 n h))

turned_round : {A : Type 0} (b : Bool) (p q : A) → cond (not b) p q ≡ cond b q p
turned_round true p q = refl
turned_round false p q = refl

module _
    (m0 m1 x y : ℤ) (bound : ℕ) (few : bound ≤ 2 ^ 28) (even : Near bound m0) (odd : Near bound m1) (gx : Gained x)
    (gy : Gained y) where
  abbrev c : ℤ
  c = m0 +ℤ x

  abbrev d : ℤ
  d = m1 +ℤ y

  best_is : best_met wholes_held least under_floor c d ≡ met c d
  best_is = rw (above_least c (added_small bound few m0 x even gx)) refl

  from_is : (s : ℕ) → best_from wholes_held least under_floor c d s ≡ from c d s
  from_is s =
      rw (above_least c (added_small bound few m0 x even gx), above_floor (met c d))
      (turned_round (lt_z (met c d) floor) (cond (lt_z c d) (s + 1) s) 0)

  best_led :
      (s : ℕ) →
      record {
        met = total_of (best_met wholes_held least under_floor c d);
        from = best_from wholes_held least under_floor c d s;
      }
      ≡ relaxed wholes (relaxed wholes (unreached wholes) (total_of m0) x s) (total_of m1) y (s + 1)
  best_led s =
      ap₂ (λ (z : ℤ) (n : ℕ). record { met = total_of z; from = n }) best_is (from_is s) ∙ two_tried c d s
      ∙ rw (
        total_added bound few m0 x even gx,
        total_added bound few m1 y odd gy,
        tried_relaxed (unreached wholes) (total_of m0) x s,
        tried_relaxed (relaxed wholes (unreached wholes) (total_of m0) x s) (total_of m1) y (s + 1),
      )

  best_near : Near (bound + 254) (best_met wholes_held least under_floor c d)
  best_near =
      rw best_is
      (either_near (bound + 254) (lt_z c d) d c (near_added bound few m1 y odd gy)
      (near_added bound few m0 x even gx))

pub wholes_sound : Sound wholes_held least under_floor
wholes_sound =
    record {
      led = λ m0 m1 x y s even odd gx gy. best_led m0 m1 x y (2 ^ 28) (le_refl (2 ^ 28)) even odd gx gy s;
      near = λ bound few m0 m1 x y even odd gx gy. best_near m0 m1 x y bound few even odd gx gy;
    }
