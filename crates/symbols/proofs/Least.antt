-- The first least state by a tournament of neighbours: two ranges of states that follow one another join in the lesser of their first
-- least ones, a range has one first least alone, and among all states it is the one that looking at one after the other finds.
-- Assumes nothing.
use mathlib.Core.Bool.{Bool, true, false, cond, true≢false}
use mathlib.Core.List.{List}
use mathlib.Core.Logic.{◌⊎◌, inl, inr, ⊎_elim}
use mathlib.Core.Path.{◌≡◌, refl, sym, ap, ap₂, subst, ◌∙◌}
use Prim.Native.Nat.{ℕ, zero, suc, ◌+◌, ◌-◌, ◌*◌, ◌≤◌, ◌<◌}
use native.Mathlib.Nat.{eq-or-lt_of_le}
use native.Mathlib.Numerals.{add-one}
use native.Mathlib.Omega.{arith}
use borrow.Author.Tests.{ltb-true, ltb-false}
use lib.Dec.{ltb}
use lib.Ieee.{Float, nan, lt, is_nan}
use lib.ListN.{length, get_or}
use Rattle.f32s.proofs.Ordered.{lt_irrefl, lt_split, lt_numbers, not_lt_smaller, not_lt_trans}
use Rattle.best_path.proofs.Survivors.{any-default}
use Rattle.butterflies.specs.Smallest.{mark}
use Rattle.symbols.specs.Decode.{first_least}
use Rattle.symbols.specs.Inner.{half, compared, compared_in, LeastIn}
use Rattle.symbols.specs.declared.forward_pass.Placed.{Placed}
use Rattle.symbols.proofs.Compared.{compared_number, number_itself, smaller_alike, larger_alike}

one_of : (b : Bool) (m n bound : ℕ) → m < bound → n < bound → cond b m n < bound
one_of true m n bound h k = h
one_of false m n bound h k = k

pub least_below : (pm : List Float) (n bound : ℕ) → 0 < bound → n ≤ bound → first_least pm n < bound
unfolding first_least
least_below pm zero bound h k = h
least_below pm (suc n) bound h k =
    one_of (lt (get_or pm n mark) (get_or pm (first_least pm n) mark)) n (first_least pm n) bound k (least_below pm n bound h (omega arith))

-- ---- ranges of states

either_side : (s mid : ℕ) → (s < mid) ⊎ (mid ≤ s)
either_side s mid = go (ltb s mid) refl
  where
    go : (t : Bool) → ltb s mid ≡ t → (s < mid) ⊎ (mid ≤ s)
    go true e = inl (ltb-true s mid e)
    go false e = inr (ltb-false s mid e)

module _ {pm : List Float} where
  alone_least :
      {lo s : ℕ} {m : Float} → s ≡ lo → m ≡ compared_in pm s → LeastIn pm lo 1 (record { met = m; state = s })
  alone_least {s = s} {m = m} at e =
      record {
        as_compared = e;
        from_lo = omega arith;
        within = omega arith;
        none_smaller = λ t h k.
            let same : t ≡ s = omega arith in
            ap₂ (λ (n : ℕ) (x : Float). lt (compared_in pm n) x) same e ∙ lt_irrefl (compared_in pm s);
        earlier_larger = λ t h k. absurd (omega arith);
      }

  -- the same, read as the code reads
  pub alone_placed :
      {s : ℕ} {m : Float} → s < length pm → m ≡ compared s (get_or pm s nan) → LeastIn pm s 1 (record { met = m; state = s })
  alone_placed {s = s} h e = alone_least refl (e ∙ ap (compared s) (sym (any-default pm s mark nan h)))

  module _ {lo n k : ℕ} {a b : Placed} (low : LeastIn pm lo n a) (high : LeastIn pm (lo + n) k b) where
    -- The second is smaller: so it is than all before it in the first range, of which none is below the first.
    second_wins : lt b.met a.met ≡ true → LeastIn pm lo (n + k) b
    second_wins e =
        record {
          as_compared = high.as_compared;
          from_lo = omega (arith, high.from_lo);
          within = omega (arith, high.within);
          none_smaller = λ s h below.
              ⊎_elim
              (λ l. not_lt_smaller (compared_in pm s) b.met a.met e (low.none_smaller s h l))
              (λ g. high.none_smaller s g (omega arith))
              (either_side s (lo + n));
          earlier_larger = λ s h before.
              ⊎_elim
              (λ l. lt_split b.met a.met (compared_in pm s) (compared_number s _) e (low.none_smaller s h l))
              (λ g. high.earlier_larger s g before)
              (either_side s (lo + n));
        }

    -- The second is not smaller: what is not below it is not below the first either.
    first_stays : lt b.met a.met ≡ false → LeastIn pm lo (n + k) a
    first_stays e =
        let number : is_nan b.met ≡ false = ap is_nan high.as_compared ∙ compared_number b.state _ in
        record {
          as_compared = low.as_compared;
          from_lo = low.from_lo;
          within = omega (arith, low.within);
          none_smaller = λ s h below.
              ⊎_elim
              (λ l. low.none_smaller s h l)
              (λ g. not_lt_trans (compared_in pm s) b.met a.met number (high.none_smaller s g (omega arith)) e)
              (either_side s (lo + n));
          earlier_larger = low.earlier_larger;
        }

    pub ranges_join : {r : Placed} → r ≡ cond (lt b.met a.met) b a → LeastIn pm lo (n + k) r
    ranges_join {r = r} e = go (lt b.met a.met) refl e
      where
        go : (t : Bool) → lt b.met a.met ≡ t → r ≡ cond t b a → LeastIn pm lo (n + k) r
        go true f is = subst (LeastIn pm lo (n + k)) (sym is) (second_wins f)
        go false f is = subst (LeastIn pm lo (n + k)) (sym is) (first_stays f)

  -- ---- a range has one first least

  least_once : {lo n : ℕ} {a b : Placed} → LeastIn pm lo n a → LeastIn pm lo n b → a.state ≡ b.state
  least_once {lo = lo} {n = n} {a = a} {b = b} p q =
      ⊎_elim
      (λ l. absurd (clash p q l))
      (λ g. ⊎_elim (λ e. sym e) (λ l. absurd (clash q p l)) (eq-or-lt_of_le g))
      (either_side a.state b.state)
    where
      clash : {a b : Placed} → LeastIn pm lo n a → LeastIn pm lo n b → a.state < b.state → ⊥
      clash {a = a} {b = b} p q l =
          let larger = q.earlier_larger a.state p.from_lo l in
          let smaller = p.none_smaller b.state q.from_lo q.within in
          true≢false (sym larger ∙ ap₂ lt q.as_compared (sym p.as_compared) ∙ smaller)

-- ---- one state after the other

module _ (pm : List Float) where
  -- the test of the state n, and what is found below n, placed
  abbrev moves : ℕ → Bool
  moves n = lt (get_or pm n mark) (get_or pm (first_least pm n) mark)

  abbrev found : ℕ → Placed
  found n = record { met = compared_in pm (first_least pm n); state = first_least pm n }

  -- what is found compares as its metric does: it is state 0, or was smaller than another
  found_alike : (n : ℕ) (x : Float) → lt x (found n).met ≡ lt x (get_or pm (first_least pm n) mark)
  unfolding first_least
  found_alike zero x = larger_alike x (get_or pm 0 mark)
  found_alike (suc n) x = go (moves n) refl (found_alike n x)
    where
      go :
          (t : Bool) → moves n ≡ t → lt x (found n).met ≡ lt x (get_or pm (first_least pm n) mark) →
          lt x (compared_in pm (cond t n (first_least pm n))) ≡ lt x (get_or pm (cond t n (first_least pm n)) mark)
      go true e before = ap (lt x) (number_itself n _ (lt_numbers _ _ e).0)
      go false e before = before

  found_least : (n : ℕ) → LeastIn pm 0 (suc n) (found (suc n))
  unfolding first_least
  found_least zero = go (moves 0)
    where
      go : (t : Bool) → LeastIn pm 0 1 (record { met = compared_in pm (cond t 0 0); state = cond t 0 0 })
      go true = alone_least refl refl
      go false = alone_least refl refl
  found_least (suc n) =
      subst (λ (k : ℕ). LeastIn pm 0 k (found (suc (suc n)))) (add-one (suc n))
      (ranges_join (found_least n) (alone_least {s = suc n} (omega arith) refl) (go (moves (suc n)) refl))
    where
      test : lt (compared_in pm (suc n)) (found (suc n)).met ≡ moves (suc n)
      test = found_alike (suc n) _ ∙ smaller_alike n (get_or pm (suc n) mark) _

      go :
          (t : Bool) → moves (suc n) ≡ t →
          found (suc (suc n))
          ≡ cond (lt (compared_in pm (suc n)) (found (suc n)).met)
          (record { met = compared_in pm (suc n); state = suc n })
          (found (suc n))
      go true e = rw (test, e)
      go false e = rw (test, e)

-- so the first least of all states is what that finds
pub least_is_found : {pm : List Float} {r : Placed} → LeastIn pm 0 (2 * half) r → r.state ≡ first_least pm (2 * half)
least_is_found {pm = pm} p = least_once p (found_least pm (2 * half - 1))
