-- What the counters come to after symbols: how many there were, up to one more than the lag, and modulo 256. So a bit comes
-- once there were more than the lag. A flush is as many symbols (0, 0), and gives a bit for each symbol whose bit was due: as
-- many as there were symbols before, and the lag at most. Assumes nothing.
use mathlib.Core.Bool.{Bool, true, false, cond}
use mathlib.Core.List.{List, [], ◌∷◌, ◌++◌}
use mathlib.Core.Path.{◌≡◌, refl, sym, ap, ◌∙◌}
use Prim.Native.Nat.{ℕ, suc, ◌+◌, ◌-◌, ◌%◌, min}
use native.Mathlib.Nat.{mod-eq_of_lt, zero-min}
use native.Mathlib.Omega.{arith}
use borrow.Author.Tests.{ltb-true, ltb-false, lt-ltb, le-ltb}
use lib.Dec.{ltb}
use lib.ListN.{length, replicate, length-append, length-replicate}
use Rattle.trellis.specs.declared.ConvCode.{ConvCode}
use Rattle.streaming_steps.specs.Steps.{turns}
use Rattle.streaming.specs.Stream.{State, fresh, fed, given, bit_behind}
use Rattle.streaming.specs.Run.{Symbol, nought, after, run_gives, flushed, flush_gives}
use Rattle.streaming.specs.Life.{after_fresh}
use Rattle.streaming.proofs.Running.{after_both, flush_is_run, flush_gives-run}

module _ (code : ConvCode) (lag : ℕ) where
  -- a count within its range is read as it is
  counted : (c n : ℕ) → c ≡ min n (suc lag) → min (suc (c % (lag + 2))) (suc lag) ≡ min (suc n) (suc lag)
  counted c n e = ap (λ (r : ℕ). min (suc r) (suc lag)) (mod-eq_of_lt (omega arith)) ∙ omega arith

  pub count_after : (xs : List Symbol) → (after_fresh code lag xs).count ≡ min (length xs) (suc lag)
  unfolding after fresh fed
  count_after [] = sym (zero-min (suc lag))
  count_after (x ∷ earlier) = counted (after_fresh code lag earlier).count (length earlier) (count_after earlier)

  turned : (t n : ℕ) → t ≡ n % turns → suc (t % turns) % turns ≡ suc n % turns
  turned t n e = omega arith

  pub turn_after : (xs : List Symbol) → (after_fresh code lag xs).turn ≡ length xs % turns
  unfolding after fresh fed
  turn_after [] = refl
  turn_after (x ∷ earlier) = turned (after_fresh code lag earlier).turn (length earlier) (turn_after earlier)

  -- the count is above the lag as soon as there were so many symbols
  past_lag : (n : ℕ) → ltb lag (min n (suc lag)) ≡ ltb lag n
  past_lag n = go (ltb lag n) refl
    where
      go : (b : Bool) → ltb lag n ≡ b → ltb lag (min n (suc lag)) ≡ b
      go true h = lt-ltb lag (min n (suc lag)) (omega (arith, ltb-true lag n h))
      go false h = le-ltb lag (min n (suc lag)) (omega (arith, ltb-false lag n h))

  -- of the last symbol: nothing up to the lag, then a bit
  pub gives_after :
      (xs : List Symbol) →
      given code lag (after_fresh code lag xs) ≡ cond (ltb lag (length xs)) (bit_behind code lag (after_fresh code lag xs) ∷ []) []
  unfolding given
  gives_after xs =
      ap (λ (b : Bool). cond b (bit_behind code lag (after_fresh code lag xs) ∷ []) [])
      (ap (ltb lag) (count_after xs) ∙ past_lag (length xs))

  -- ---- symbols after symbols, and a flush

  module _ (xs : List Symbol) where
    abbrev st : State
    st = after_fresh code lag xs

    count_more : (ys : List Symbol) → (after code lag st ys).count ≡ min (length ys + length xs) (suc lag)
    count_more ys =
        ap (λ (s : State). s.count) (after_both code lag (fresh code lag) xs ys)
        ∙ count_after (ys ++ xs)
        ∙ ap (λ (k : ℕ). min k (suc lag)) (length-append ys xs)

    -- a bit once the count is above the lag
    given_more :
        (s : State) (m n k : ℕ) → s.count ≡ min (suc m + n) (suc lag) → k ≡ min m (m + n - lag) →
        k + length (given code lag s) ≡ min (suc m) (suc m + n - lag)
    unfolding given
    given_more s m n k e f = go (ltb lag s.count) refl
      where
        go :
            (b : Bool) → ltb lag s.count ≡ b →
            k + length (cond b (bit_behind code lag s ∷ []) []) ≡ min (suc m) (suc m + n - lag)
        go true h = omega (arith, ltb-true lag s.count h)
        go false h = omega (arith, ltb-false lag s.count h)

    -- of the symbols ys behind the others all but the lag's first give a bit each
    pub length-run_gives : (ys : List Symbol) → length (run_gives code lag st ys) ≡ min (length ys) (length ys + length xs - lag)
    unfolding run_gives
    length-run_gives [] = omega arith
    length-run_gives (y ∷ ys) =
        length-append (run_gives code lag st ys) (given code lag (after code lag st (y ∷ ys)))
        ∙ given_more (after code lag st (y ∷ ys)) (length ys) (length xs) (length (run_gives code lag st ys)) (count_more (y ∷ ys))
        (length-run_gives ys)

    pub flush_after : flushed code lag st ≡ after_fresh code lag (replicate lag nought ++ xs)
    flush_after = sym (flush_is_run code lag st) ∙ after_both code lag (fresh code lag) xs (replicate lag nought)

    pub flush_gives-after : length (flush_gives code lag st) ≡ min (length xs) lag
    flush_gives-after =
        ap length (sym (flush_gives-run code lag st))
        ∙ length-run_gives (replicate lag nought)
        ∙ omega (arith, length-replicate lag nought)
