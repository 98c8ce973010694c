-- Whatever calls were made from a fresh decoder, in any order and refused or not: its state is that after the symbols that were
-- accepted. So what is known of states after symbols is known of every life: the 2^30 bound, the counters, from when on a symbol
-- gives a bit, and how many bits a flush gives. Assumes nothing.
use mathlib.Core.Bool.{Bool, true, false, cond}
use mathlib.Core.List.{List, [], ◌∷◌, ◌++◌}
use mathlib.Core.Path.{◌≡◌, refl, sym, ap, subst, ◌∙◌}
use Prim.Native.Nat.{ℕ, zero, suc, ◌%◌, ◌^◌, ◌≤◌, ◌<◌, min}
use lib.Dec.{ltb}
use lib.Ieee.{Float, of_bits, neg, lt, le}
use lib.ListN.{length, get_or, replicate}
use Rattle.f32s.specs.Single.{zero32, within}
use Rattle.butterflies.specs.Smallest.{mark, smallest}
use Rattle.trellis.specs.declared.ConvCode.{ConvCode}
use Rattle.streaming_steps.specs.Steps.{turns}
use Rattle.streaming.specs.Stream.{State, fresh, given, bit_behind}
use Rattle.streaming.specs.Run.{Symbol, nought, after, flushed, flush_gives}
use Rattle.streaming.specs.Said.{feed_leaves, flush_leaves}
use Rattle.streaming.specs.Life.{Good, AllGood, joined_by, after_fresh, metric_bound}
use Rattle.streaming.specs.Life.{Life, begun, then_fed, then_flushed, accepted_in}
use Rattle.streaming.proofs.Bounds.{metric_bounded}
use Rattle.streaming.proofs.Running.{joined_after}
use Rattle.streaming.proofs.Counters.{count_after, turn_after, gives_after, flush_after, flush_gives-after}

-- what a flush feeds is accepted
nought_good : Good nought
unfolding of_bits neg le
nought_good = record { re_within = refl; im_within = refl }

noughts_good : (n : ℕ) (xs : List Symbol) → AllGood xs → AllGood (replicate n nought ++ xs)
noughts_good zero xs good = good
noughts_good (suc n) xs good = (nought_good, noughts_good n xs good)

-- and what joins the accepted symbols is accepted
joined_good : (xs : List Symbol) (re im : Float) → AllGood xs → AllGood (joined_by re im xs)
joined_good xs re im good = go (within re) (within im) refl refl
  where
    go :
        (p q : Bool) → within re ≡ p → within im ≡ q →
        AllGood (cond p (cond q (record { re = re; im = im } ∷ xs) xs) xs)
    go true true e f = (record { re_within = e; im_within = f }, good)
    go true false e f = good
    go false q e f = good

module _ (code : ConvCode) (lag : ℕ) where
  -- the symbols were accepted, and the state is that after them
  record Accepted (st : State) (xs : List Symbol) : Type 0 where
    good : AllGood xs
    is : st ≡ after_fresh code lag xs

  accepted_more :
      (st : State) (xs : List Symbol) (re im : Float) → Accepted st xs → Accepted (feed_leaves code lag st re im) (joined_by re im xs)
  accepted_more st xs re im h =
      record {
        good = joined_good xs re im h.good;
        is = ap (λ (s : State). feed_leaves code lag s re im) h.is ∙ joined_after code lag (fresh code lag) xs re im;
      }

  accepted_flush :
      (st : State) (xs : List Symbol) (room : ℕ) → Accepted st xs →
      Accepted (flush_leaves code lag st room) (cond (ltb room lag) xs (replicate lag nought ++ xs))
  unfolding flush_leaves
  accepted_flush st xs room h = go (ltb room lag)
    where
      go : (b : Bool) → Accepted (cond b st (flushed code lag st)) (cond b xs (replicate lag nought ++ xs))
      go true = h
      go false =
          record { good = noughts_good lag xs h.good; is = ap (flushed code lag) h.is ∙ flush_after code lag xs }

  accepted : (st : State) (life : Life code lag st) → Accepted st (accepted_in code lag st life)
  unfolding accepted_in after
  accepted st begun = record { good = tt; is = refl }
  accepted st (then_fed before re im life) =
      accepted_more before (accepted_in code lag before life) re im (accepted before life)
  accepted st (then_flushed before room life) =
      accepted_flush before (accepted_in code lag before life) room (accepted before life)

  module _ (st : State) (life : Life code lag st) where
    -- the symbols of the life, and how many there are
    abbrev symbols : List Symbol
    symbols = accepted_in code lag st life

    pub life_is_after : st ≡ after_fresh code lag (accepted_in code lag st life)
    life_is_after = (accepted st life).is

    pub life_bounded :
        0 < code.width → code.width ≤ 16 → (s : ℕ) → s < 2 ^ code.width → smallest.reached (get_or st.pm s mark) ≡ true →
        (le zero32 (get_or st.pm s mark) ≡ true) × (lt (get_or st.pm s mark) metric_bound ≡ true)
    life_bounded some small s h r =
        let is = life_is_after in
        rw is (metric_bounded code some small lag symbols (accepted st life).good s h (rw is at r))

    pub life_count : st.count ≡ min (length (accepted_in code lag st life)) (suc lag)
    life_count = ap (λ (s : State). s.count) life_is_after ∙ count_after code lag symbols

    pub life_turn : st.turn ≡ length (accepted_in code lag st life) % turns
    life_turn = ap (λ (s : State). s.turn) life_is_after ∙ turn_after code lag symbols

    -- nothing up to the lag, then a bit
    pub life_gives : given code lag st ≡ cond (ltb lag (length (accepted_in code lag st life))) (bit_behind code lag st ∷ []) []
    life_gives =
        subst (λ (s : State). given code lag s ≡ cond (ltb lag (length symbols)) (bit_behind code lag s ∷ []) []) (sym life_is_after)
        (gives_after code lag symbols)

    pub life_flush_gives : length (flush_gives code lag st) ≡ min (length (accepted_in code lag st life)) lag
    life_flush_gives =
        ap (λ (s : State). length (flush_gives code lag s)) life_is_after ∙ flush_gives-after code lag symbols
