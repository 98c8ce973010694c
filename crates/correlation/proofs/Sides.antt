-- The two correlations that a butterfly has: that of a pair of coded bits, and that of the pair with both turned. Stated over
-- variables, so that a proof of code only hands its facts over. Assumes nothing.
use mathlib.Core.Bool.{Bool, true, false, cond, not}
use mathlib.Core.Path.{◌≡◌, refl, sym, ap, ap₂, ◌∙◌}
use Prim.Native.Nat.{ℕ, zero, suc, ◌-◌, ◌<◌}
use native.Mathlib.Omega.{arith}
use lib.Dec.{eqb}
use Rattle.correlation.specs.Arithmetic.{Arithmetic}
use Rattle.correlation.specs.Gain.{correlation}

-- all that is asked of an arithmetic
pub record Lawful {A : Type 0} (on : Arithmetic A) : Type 0 where
  pub subtracts : (a b : A) → on.minus a b ≡ on.plus a (on.negative b)
  pub twice : (a : A) → on.negative (on.negative a) ≡ a

turned_test : (c : ℕ) → c < 2 → not (eqb c 0) ≡ eqb (1 - c) 0
turned_test zero h = refl
turned_test (suc zero) h = refl
turned_test (suc (suc c)) h = absurd (omega arith)

module _ {A : Type 0} {on : Arithmetic A} (lawful : Lawful on) where
  abbrev by_tests : A → A → Bool → Bool → A
  by_tests a b p q =
      cond p (cond q (on.plus a b) (on.minus a b)) (cond q (on.plus (on.negative a) b) (on.minus (on.negative a) b))

  abbrev turn : Bool → A → A
  turn p a = cond p a (on.negative a)

  sum_by_tests : (a b : A) (p q : Bool) → on.plus (turn p a) (turn q b) ≡ by_tests a b p q
  sum_by_tests a b true true = refl
  sum_by_tests a b true false = sym (lawful.subtracts a b)
  sum_by_tests a b false true = refl
  sum_by_tests a b false false = sym (lawful.subtracts (on.negative a) b)

  opposite_by_tests : (a b : A) (p q : Bool) → on.minus (on.negative (turn p a)) (turn q b) ≡ by_tests a b (not p) (not q)
  opposite_by_tests a b true true = refl
  opposite_by_tests a b true false =
      lawful.subtracts (on.negative a) (on.negative b) ∙ ap (on.plus (on.negative a)) (lawful.twice b)
  opposite_by_tests a b false true = ap (λ (x : A). on.minus x b) (lawful.twice a)
  opposite_by_tests a b false false =
      lawful.subtracts (on.negative (on.negative a)) (on.negative b) ∙ ap₂ on.plus (lawful.twice a) (lawful.twice b)

  module _
      (a b : A) {x y : A} (c0 c1 : ℕ) (of_a : x ≡ cond (eqb c0 0) a (on.negative a)) (of_b : y ≡ cond (eqb c1 0) b (on.negative b))
    where
      pub sum_correlates : on.plus x y ≡ correlation on a b c0 c1
      unfolding correlation
      sum_correlates = ap₂ on.plus of_a of_b ∙ sum_by_tests a b (eqb c0 0) (eqb c1 0)

      -- the pair with both bits turned
      pub opposite_correlates : c0 < 2 → c1 < 2 → on.minus (on.negative x) y ≡ correlation on a b (1 - c0) (1 - c1)
      unfolding correlation
      opposite_correlates h k =
          ap₂ (λ (v w : A). on.minus (on.negative v) w) of_a of_b ∙ opposite_by_tests a b (eqb c0 0) (eqb c1 0)
          ∙ ap₂ (by_tests a b) (turned_test c0 h) (turned_test c1 k)
