-- Normalisation: metrics that all lie from p up to p + r, in multiples of 2 ^ 13, come to lie from 0 up to r. Where nothing
-- is subtracted the least is 0, and so is p. Assumes nothing.
use mathlib.Core.Bool.{Bool, true, false, cond}
use mathlib.Core.List.{List, map}
use mathlib.Core.Path.{◌≡◌, refl, ◌∙◌}
use Prim.Native.Nat.{ℕ, ◌+◌, ◌≤◌, ◌<◌, zero-le}
use native.Mathlib.Omega.{arith}
use lib.Dec.{lit≤}
use lib.Ieee.{Float, binary32, of_bits, lt}
use lib.ListN.{length, get_or, length-map, get_or-map}
use Rattle.best_path.proofs.Survivors.{any-default}
use Rattle.f32s.specs.Bounded.{UpTo}
use Rattle.f32s.proofs.Ranges.{Range, from_not_below, bounds_ordered}
use Rattle.f32s.proofs.RangeSums.{difference_range}
use Rattle.f32s.specs.Single.{zero32}
use Rattle.butterflies.specs.Smallest.{mark, smallest}
use Rattle.symbols.proofs.Bounds.{up_to_below}
use Rattle.streaming_steps.specs.Steps.{least_of, lowered, normalised}
use Rattle.streaming.proofs.Least.{Found, least_not_above, least_is_one}
use Rattle.streaming.proofs.Plain.{scale, exact}

pub length-normalised : (states : ℕ) (mets : List Float) → length (normalised states mets) ≡ length mets
unfolding normalised
length-normalised states mets = go (lt zero32 (least_of mets states))
  where
    go : (b : Bool) → length (cond b (map (lowered (least_of mets states)) mets) mets) ≡ length mets
    go true = length-map mets (lowered (least_of mets states))
    go false = refl

module _
    (states : ℕ) (some : 0 < states) (mets : List Float) (sized : length mets ≡ states) (p r : ℕ) (few : p + r ≤ exact)
    (all : (s : ℕ) → s < states → Range p (p + r) scale (get_or mets s mark)) where
  abbrev met_at : ℕ → Float
  met_at s = get_or mets s mark

  abbrev least : Float
  least = least_of mets states

  reached : (s : ℕ) → s < states → smallest.reached (met_at s) ≡ true
  reached s h = up_to_below few (all s h).up_to

  least_range : Range p (p + r) scale least
  least_range = go (least_is_one mets states 0 some (reached 0 some))
    where
      go : Found mets states → Range p (p + r) scale least
      go f = rw f.is_least (all f.at f.at_below)

  lowered_up_to : (s : ℕ) → s < states → UpTo r scale (lowered least (met_at s))
  lowered_up_to s h =
      rw (reached s h)
      (difference_range binary32 scale (lit≤ tt) (all s h).up_to least_range (least_not_above mets states s h) (omega arith))

  lowered_at : (s : ℕ) → s < states → get_or (map (lowered least) mets) s mark ≡ lowered least (met_at s)
  lowered_at s h =
      let within : s < length (map (lowered least) mets) = omega (arith, length-map mets (lowered least)) in
      any-default (map (lowered least) mets) s mark (lowered least mark) within ∙ get_or-map (lowered least) mets s mark

  -- 0 is from p on where the least is not above it
  from_nought : lt zero32 least ≡ false → p ≤ 0
  from_nought e =
      let nought : UpTo 0 scale zero32 = unfold of_bits in record { lies = zero-le } in
      bounds_ordered scale (from_not_below scale nought least_range e)

  pub normalised_up_to : (s : ℕ) → s < states → UpTo r scale (get_or (normalised states mets) s mark)
  unfolding normalised
  normalised_up_to s h = go (lt zero32 least) refl
    where
      go : (b : Bool) → lt zero32 least ≡ b → UpTo r scale (get_or (cond b (map (lowered least) mets) mets) s mark)
      go true e = rw (lowered_at s h) (lowered_up_to s h)
      go false e =
          let nil = from_nought e in
          let same : p + r ≡ r = omega arith in
          rw same at (all s h).up_to
