-- What a call accepts: no more symbols than the limit, and no component beyond ±1,024. So no branch out of a reached state comes to
-- the mark, by the limit's name. Assumes nothing.
use mathlib.Core.Bool.{true}
use mathlib.Core.List.{List}
use mathlib.Core.Path.{◌≡◌, sym, ap, ◌∙◌}
use Prim.Native.Nat.{ℕ, ◌*◌, ◌^◌, ◌≤◌, ◌<◌}
use native.Mathlib.Omega.{arith}
use borrow.Author.Tests.{ltb-false}
use lib.Dec.{ltb}
use lib.Ieee.{Float, nan, lt}
use lib.ListN.{length, get_or, take}
use lib.Seq.{get_or-take, length-take-le}
use Rattle.butterflies.specs.Smallest.{mark, smallest}
use Rattle.f32s.specs.Single.{within}
use Rattle.refusal.specs.Answer.{accepted}
use Rattle.refusal.specs.Limits.{most}
use Rattle.refusal.specs.Numbers.{too_many, bad_component}
use Rattle.refusal.proofs.FirstBad.{good_before, accepted_all_good}
use Rattle.refusal.proofs.Told.{accepted_passed}
use Rattle.trellis.specs.declared.ConvCode.{ConvCode}
use Rattle.symbols.specs.Decode.{symbol_costs}
use Rattle.symbols.specs.Said.{symbols_in, soft_said}
use Rattle.symbols.proofs.Bounds.{metric_at, candidate_below_mark}
use Rattle.symbols.proofs.Lengths.{room_past}

-- as many of the largest costs as the limit allows are far below the mark
pub limit_costs : 257 * most ≤ 2 ^ 24
limit_costs = omega arith

module _ (soft : List Float) (room scratch n : ℕ) (accepts : soft_said soft room scratch ≡ accepted n) where
  abbrev count : ℕ
  count = symbols_in soft

  accepted_few : count ≤ most
  unfolding soft_said
  accepted_few = ltb-false most count (accepted_passed (ltb most count) too_many _ n accepts)

  accepted_within : (i : ℕ) → i < 2 * count → within (get_or soft i nan) ≡ true
  unfolding soft_said
  accepted_within i h =
      let used = take (2 * count) soft in
      let sized : length used ≡ 2 * count = length-take-le (2 * count) soft (omega arith) in
      let all = accepted_all_good within bad_component used (accepted count) n (room_past count room scratch _ n accepts) in
      sym (ap within (get_or-take (2 * count) soft i nan h)) ∙ good_before within nan used i (omega (arith, h, sized, all))

  pub accepted_below_mark :
      (code : ConvCode) → 0 < code.width → (t s i : ℕ) → t < count → s < 2 ^ code.width →
      smallest.reached (metric_at code soft t s) ≡ true →
      lt (smallest.add (metric_at code soft t s) (symbol_costs code soft t s i)) mark ≡ true
  accepted_below_mark code some =
      candidate_below_mark code some soft count (omega (arith, accepted_few, limit_costs)) accepted_within
