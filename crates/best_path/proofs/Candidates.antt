-- One branch after the other as a decoder compares them: a sum with a value that is never better, for a state that was not
-- reached, and one test for both branches whether any of them won. Over any metric. Assumes nothing.
use mathlib.Core.Bool.{Bool, true, false, cond, ◌||◌}
use mathlib.Core.Path.{◌≡◌, refl, sym, ap, ◌∙◌}
use Prim.Native.Nat.{ℕ, ◌+◌}
use Rattle.best_path.specs.Metric.{Metric}
use Rattle.best_path.specs.Inner.{LedTo}
use Rattle.best_path.specs.Step.{Cell, unreached, chosen, relaxed}

-- a test's two outcomes
pub where_true : {A : Type 0} (test : Bool) (x y : A) → test ≡ true → x ≡ cond test x y
where_true test x y e = rw e

pub where_false : {A : Type 0} (test : Bool) (x y : A) → test ≡ false → y ≡ cond test x y
where_false test x y e = rw e

-- `out` stands for a state that was not reached
module _ {M B : Type 0} (op : Metric M B) (out : M) (never : (x : M) (c : B) → op.better (op.add out c) x ≡ false) where
  skipped_or_chosen :
      (z : Cell M) (m : M) (c : B) (s : ℕ) (reached : Bool) → op.reached m ≡ reached →
      chosen op z (op.add (cond (op.reached m) m out) c) s ≡ relaxed op z m c s
  unfolding relaxed
  skipped_or_chosen z m c s true e = rw e
  skipped_or_chosen z m c s false e = rw (e, never z.met c)

  chosen_relaxed :
      (z : Cell M) (m : M) (c : B) (s : ℕ) → chosen op z (op.add (cond (op.reached m) m out) c) s ≡ relaxed op z m c s
  chosen_relaxed z m c s = skipped_or_chosen z m c s (op.reached m) refl

  both_relaxed :
      (m0 m1 p0 p1 : M) (x y : B) (s t : ℕ) (r : Cell M) →
      p0 ≡ cond (op.reached m0) m0 out → p1 ≡ cond (op.reached m1) m1 out →
      r ≡ chosen op (chosen op (unreached op) (op.add p0 x) s) (op.add p1 y) t →
      r ≡ relaxed op (relaxed op (unreached op) m0 x s) m1 y t
  both_relaxed m0 m1 p0 p1 x y s t r e f g =
      g ∙ rw (e, f, chosen_relaxed (unreached op) m0 x s, chosen_relaxed (relaxed op (unreached op) m0 x s) m1 y t)

  -- so the two new states are what the pair leads to
  pub pair_led :
      {m0 m1 p0 p1 : M} {s : ℕ} {x y : B} {low high : Cell M} →
      p0 ≡ cond (op.reached m0) m0 out → p1 ≡ cond (op.reached m1) m1 out →
      low ≡ chosen op (chosen op (unreached op) (op.add p0 x) s) (op.add p1 y) (s + 1) →
      high ≡ chosen op (chosen op (unreached op) (op.add p0 y) s) (op.add p1 x) (s + 1) →
      LedTo op m0 m1 s x y low high
  pair_led {m0} {m1} {p0} {p1} {s} {x} {y} {low} {high} even odd of_low of_high =
      record {
        low = both_relaxed m0 m1 p0 p1 x y s (s + 1) low even odd of_low;
        high = both_relaxed m0 m1 p0 p1 y x s (s + 1) high even odd of_high;
      }

-- a metric whose order is transitive, and of which the mark is not better than itself
pub record Strict {M B : Type 0} (op : Metric M B) : Type 0 where
  pub trans : (x y z : M) → op.better x y ≡ true → op.better y z ≡ true → op.better x z ≡ true
  pub not_itself : op.better op.mark op.mark ≡ false

-- the candidate x0 comes from the state s, x1 from s + 1: z is the better of the mark and x0, met of z and x1
pub record Compared {M B : Type 0} (op : Metric M B) (x0 x1 : M) (s : ℕ) (z met : M) (from : ℕ) : Type 0 where
  pub first : z ≡ cond (op.better x0 op.mark) x0 op.mark
  pub second : met ≡ cond (op.better x1 z) x1 z
  pub survivor : from ≡ cond (op.better x1 z) (s + 1) s

module _
    {M B : Type 0} {op : Metric M B} (strict : Strict op) {x0 x1 : M} {s : ℕ} {z met : M} {from : ℕ}
    (is : Compared op x0 x1 s z met from) where
  abbrev both : Cell M
  both = chosen op (chosen op (unreached op) x0 s) x1 (s + 1)

  -- the second candidate is better than what z is
  against : (what : M) → z ≡ what → op.better x1 z ≡ true → op.better x1 what ≡ true
  against what e f = ap (op.better x1) (sym e) ∙ f

  -- by whether the first candidate won, and the second
  better_than_mark :
      (first second : Bool) → op.better x0 op.mark ≡ first → op.better x1 z ≡ second →
      op.better met op.mark ≡ (first || second)
  better_than_mark true true e f =
      rw (is.second, f) (strict.trans x1 x0 op.mark (against x0 (simp e at is.first) f) e)
  better_than_mark true false e f = rw (is.second, f, is.first, e) e
  better_than_mark false true e f = rw (is.second, f) (against op.mark (simp e at is.first) f)
  better_than_mark false false e f = rw (is.second, f, is.first, e) strict.not_itself

  won :
      (first second : Bool) → op.better x0 op.mark ≡ first → op.better x1 z ≡ second →
      record { met = met; from = cond (first || second) from 0 } ≡ both
  won first second e f = by_both first second e f is.first is.second is.survivor
    where
      by_both :
          (first second : Bool) → op.better x0 op.mark ≡ first → op.better x1 z ≡ second →
          z ≡ cond (op.better x0 op.mark) x0 op.mark → met ≡ cond (op.better x1 z) x1 z →
          from ≡ cond (op.better x1 z) (s + 1) s → record { met = met; from = cond (first || second) from 0 } ≡ both
      by_both true true e f a b c = cc
      by_both true false e f a b c = cc
      by_both false true e f a b c = cc
      by_both false false e f a b c = cc

  -- the survivor is kept where any candidate won, and 0 where none did
  kept : (any : Bool) → op.better met op.mark ≡ any → record { met = met; from = cond any from 0 } ≡ both
  kept any e =
      ap (λ (b : Bool). record { met = met; from = cond b from 0 })
      (sym e ∙ better_than_mark (op.better x0 op.mark) (op.better x1 z) refl refl)
      ∙ won (op.better x0 op.mark) (op.better x1 z) refl refl

  pub any_won : op.better met op.mark ≡ true → record { met = met; from = from } ≡ both
  any_won = kept true

  pub none_won : op.better met op.mark ≡ false → record { met = met; from = 0 } ≡ both
  none_won = kept false
