-- A decoder fed a list, symbol by symbol: the state after them, their bits, and those bits at the front of an output. Over any
-- code and lag. Assumes nothing.
use mathlib.Core.Bool.{Bool, true, false, cond}
use mathlib.Core.List.{List, [], ◌∷◌, ◌++◌, append-nil}
use mathlib.Core.Path.{◌≡◌, refl, sym, ap, subst, ◌∙◌}
use Prim.Native.Nat.{ℕ, ◌+◌}
use lib.Ieee.{Float}
use lib.ListN.{replicate}
use Rattle.f32s.specs.Single.{within}
use Rattle.refusal.specs.Answer.{Said, accepted, refused}
use Rattle.refusal.specs.Numbers.{bad_component}
use Rattle.refusal.proofs.Filling.{Written, none_written}
use Rattle.trellis.specs.declared.ConvCode.{ConvCode}
use Rattle.streaming.specs.Stream.{State, fed, given}
use Rattle.streaming.specs.Run.{Symbol, nought, after, run_gives, flushed, flush_gives}
use Rattle.streaming.specs.Said.{feed_said, feed_leaves, bits_in}
use Rattle.streaming.specs.Life.{joined_by}

module _ (code : ConvCode) (lag : ℕ) (st : State) where
  pub after_none : st ≡ after code lag st []
  unfolding after
  after_none = refl

  pub after_next :
      (x : Symbol) (xs : List Symbol) → fed code lag (after code lag st xs) x.re x.im ≡ after code lag st (x ∷ xs)
  unfolding after
  after_next x xs = refl

  -- symbols after symbols
  pub after_both : (xs ys : List Symbol) → after code lag (after code lag st xs) ys ≡ after code lag st (ys ++ xs)
  unfolding after
  after_both xs [] = refl
  after_both xs (y ∷ ys) = ap (λ (s : State). fed code lag s y.re y.im) (after_both xs ys)

  pub gives_none : [] ≡ run_gives code lag st []
  unfolding run_gives
  gives_none = refl

  pub gives_next :
      (x : Symbol) (xs : List Symbol) →
      run_gives code lag st xs ++ given code lag (after code lag st (x ∷ xs)) ≡ run_gives code lag st (x ∷ xs)
  unfolding run_gives
  gives_next x xs = refl

  -- a flush is as many symbols (0, 0) as the lag
  pub flush_is_run : after code lag st (replicate lag nought) ≡ flushed code lag st
  unfolding flushed
  flush_is_run = refl

  pub flush_gives-run : run_gives code lag st (replicate lag nought) ≡ flush_gives code lag st
  unfolding flush_gives
  flush_gives-run = refl

-- The state is that after the symbols xs, and their bits, i at most, stand at the front of what was lent.
pub record Ran
    (code : ConvCode) (lag : ℕ) (st : State) (old : List ℕ) (xs : List Symbol) (i : ℕ) (now : State) (out : List ℕ) (written : ℕ)
    : Type 0 where
  pub state : now ≡ after code lag st xs
  pub bits : Written old (run_gives code lag st xs) i out written

module _ {code : ConvCode} {lag : ℕ} {st : State} {old : List ℕ} where
  pub ran_none : Ran code lag st old [] 0 st old 0
  ran_none = record { state = after_none code lag st; bits = none_written old _ (gives_none code lag st) }

  module _ {xs : List Symbol} {i : ℕ} {now next : State} {out new : List ℕ} {written count : ℕ} where
    -- a symbol more, with what it gives written behind the bits before it
    pub ran_more :
        (x : Symbol) {more : List ℕ} → Ran code lag st old xs i now out written →
        next ≡ fed code lag now x.re x.im → given code lag next ≡ more →
        Written old (run_gives code lag st xs ++ more) (i + 1) new count → Ran code lag st old (x ∷ xs) (i + 1) next new count
    ran_more x {more} ran fed_it gives written_it =
        let of_next : next ≡ after code lag st (x ∷ xs) =
        fed_it ∙ ap (λ (s : State). fed code lag s x.re x.im) ran.state ∙ after_next code lag st x xs in
        let of_bits : run_gives code lag st xs ++ more ≡ run_gives code lag st (x ∷ xs) =
        ap (λ (l : List ℕ). run_gives code lag st xs ++ l) (sym gives ∙ ap (given code lag) of_next) ∙ gives_next code lag st x xs in
        record { state = of_next; bits = subst (λ (l : List ℕ). Written old l (i + 1) new count) of_bits written_it }

-- ---- a symbol, accepted or not

module _ (code : ConvCode) (lag : ℕ) (st : State) (xs : List Symbol) (re im : Float) where
  abbrev now : State
  now = after code lag st xs

  abbrev next : State
  next = fed code lag now re im

  -- one that is accepted joins those before it, and one that is refused leaves the state and gives nothing
  pub joined_after : feed_leaves code lag now re im ≡ after code lag st (joined_by re im xs)
  unfolding feed_leaves after
  joined_after = go (within re) (within im)
    where
      go :
          (p q : Bool) →
          cond p (cond q next now) now ≡ after code lag st (cond p (cond q (record { re = re; im = im } ∷ xs) xs) xs)
      go true true = refl
      go true false = refl
      go false q = refl

  pub joined_gives :
      run_gives code lag st xs ++ bits_in (feed_said code lag now re im) ≡ run_gives code lag st (joined_by re im xs)
  unfolding feed_said run_gives after
  joined_gives = go (within re) (within im)
    where
      go :
          (p q : Bool) →
          run_gives code lag st xs
          ++ bits_in (cond p (cond q (accepted (given code lag next)) (refused bad_component 1)) (refused bad_component 0))
          ≡ run_gives code lag st (cond p (cond q (record { re = re; im = im } ∷ xs) xs) xs)
      go true true = refl
      go true false = append-nil (run_gives code lag st xs)
      go false q = append-nil (run_gives code lag st xs)

-- what it gives written behind the bits before it
pub ran_fed :
    {code : ConvCode} {lag : ℕ} {st : State} {old : List ℕ} {xs : List Symbol} {i : ℕ} {now next : State} {out new : List ℕ}
    {written count : ℕ} (re im : Float) (said : Said (List ℕ)) → Ran code lag st old xs i now out written →
    said ≡ feed_said code lag now re im → next ≡ feed_leaves code lag now re im →
    Written old (run_gives code lag st xs ++ bits_in said) (i + 1) new count →
    Ran code lag st old (joined_by re im xs) (i + 1) next new count
ran_fed {code} {lag} {st} {old} {xs} {i} {now} {next} {out} {new} {written} {count} re im said ran says leaves w =
    let bits : run_gives code lag st xs ++ bits_in said ≡ run_gives code lag st (joined_by re im xs) =
    ap (λ (s : Said (List ℕ)). run_gives code lag st xs ++ bits_in s) (says ∙ ap (λ (s : State). feed_said code lag s re im) ran.state)
    ∙ joined_gives code lag st xs re im in
    record {
      state = leaves ∙ ap (λ (s : State). feed_leaves code lag s re im) ran.state ∙ joined_after code lag st xs re im;
      bits = subst (λ (l : List ℕ). Written old l (i + 1) new count) bits w;
    }
