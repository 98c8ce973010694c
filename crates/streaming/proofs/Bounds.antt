-- What a metric can come to where every symbol is accepted: it is the mark, or from 0 up to a bound that grows with the symbols
-- since the last normalisation, and so below 2 ^ 30 for ever. Some state is always reached. Over any code of 1 to 16 cells.
-- Assumes nothing.
use mathlib.Core.Bool.{Bool, true, false, cond}
use mathlib.Core.List.{List, [], ◌∷◌}
use mathlib.Core.Logic.{inl, inr}
use mathlib.Core.Path.{◌≡◌, refl, ap, subst, ◌∙◌}
use Prim.Native.Nat.{ℕ, zero, suc, ◌+◌, ◌-◌, ◌*◌, ◌%◌, ◌^◌, ◌≤◌, ◌<◌, zero-le}
use native.Mathlib.Nat.{mul-le-mul_right, lt_of_le_of_lt}
use native.Mathlib.Omega.{arith}
use borrow.Author.Tests.{eqb-true, eqb-false}
use lib.Dec.{eqb, lit<}
use lib.Ieee.{Float, of_bits, lt, le}
use lib.ListN.{length, get_or, length-replicate}
use lib.Pow.{pow_pos, suc_ones}
use Rattle.f32s.specs.Single.{zero32, within}
use Rattle.f32s.proofs.Bounded.{wider_between, lt_value}
use Rattle.f32s.proofs.Ranges.{zero_at_most}
use Rattle.butterflies.specs.Smallest.{mark, smallest}
use Rattle.symbols.specs.Costs.{started}
use Rattle.symbols.proofs.Bounds.{MarkOrUpTo, up_to_below, reached_up_to, started_bounded}
use Rattle.trellis.specs.declared.ConvCode.{ConvCode}
use Rattle.streaming_steps.specs.Steps.{turns, stepped, new_mets, normalised}
use Rattle.streaming.specs.Stream.{State, fresh, fed}
use Rattle.streaming.specs.Run.{Symbol, after}
use Rattle.streaming.specs.Life.{Good, AllGood, after_fresh, metric_bound}
use Rattle.streaming.proofs.Counters.{turn_after}
use Rattle.streaming.proofs.Lowered.{length-normalised, normalised_up_to}
use Rattle.streaming.proofs.Plain.{dearest, scale, exact, MarkOrRange, next, length-next}
use Rattle.streaming.proofs.Spread.{Spread, spread_starts, spread_steps, spread_reaches, spread_ends}
use Rattle.streaming.proofs.Way.{way, way_below}

-- how far apart the metrics lie once all cells were replaced: a branch for each cell, and one for the least rounded down
abbrev pub apart : ConvCode → ℕ
apart code = suc (dearest * code.width)

-- after n symbols: that much after normalisation, and a branch for each symbol since
abbrev pub highest : ConvCode → ℕ → ℕ
highest code n = apart code + dearest * (n % turns)

wider : {q r : ℕ} {m : Float} → q ≤ r → MarkOrUpTo q m → MarkOrUpTo r m
wider h (inl e) = inl e
wider h (inr u) = inr (wider_between u zero-le (mul-le-mul_right (2 ^ scale) h))

range_up_to : {p q : ℕ} {m : Float} → MarkOrRange p q m → MarkOrUpTo q m
range_up_to (inl e) = inl e
range_up_to (inr v) = inr v.up_to

module _ (code : ConvCode) (some : 0 < code.width) (small : code.width ≤ 16) where
  abbrev states : ℕ
  states = 2 ^ code.width

  -- after n symbols: of the symbols since the last normalisation any number may be looked back over
  record Steady (n : ℕ) (mets : List Float) : Type 0 where
    sized : length mets ≡ states
    spreads : (j : ℕ) → j ≤ n % turns → Spread code (highest code n) j mets

  -- a new look back, from where another one ends
  again : (q j : ℕ) (mets : List Float) → q + 1 ≤ exact → Spread code q j mets → Spread code q 0 mets
  again q j mets few v =
      spread_starts code q mets (λ s h. range_up_to (v.all s h)) (way code v.source 0 j) (way_below code v.source 0 j)
      (spread_reaches code q j mets few v 0)

  -- none to look back over
  steady_at_first :
      (n : ℕ) (mets : List Float) → n % turns ≡ 0 → length mets ≡ states →
      ((s : ℕ) → s < states → MarkOrUpTo (apart code) (get_or mets s mark)) → smallest.reached (get_or mets 0 mark) ≡ true → Steady n mets
  steady_at_first n mets e sized bounded r =
      record {
        sized = sized;
        spreads = λ j h.
            let none : 0 ≡ j = omega arith in
            subst (λ (i : ℕ). Spread code (highest code n) i mets) none
            (spread_starts code (highest code n) mets (λ s g. wider (omega arith) (bounded s g)) 0 (pow_pos code.width) r);
      }

  steady_fresh : Steady 0 (started code)
  steady_fresh =
      steady_at_first 0 (started code) refl (ap suc (length-replicate (states - 1) mark) ∙ suc_ones code.width)
      (λ s h. wider zero-le (started_bounded code s h)) (unfold of_bits lt in refl)

  module _
      (re im : Float) (re_in : within re ≡ true) (im_in : within im ≡ true) (n : ℕ) (mets : List Float) (was : Steady n mets)
    where
      -- one more to look back over
      longer : (j : ℕ) → j ≤ n % turns → Spread code (highest code n + dearest) (suc j) (next code re im mets)
      longer j h =
          spread_steps code some re im re_in im_in (highest code n) j mets (omega (arith, was.sized)) (omega arith)
          (was.spreads j h)

      now_sized : length (next code re im mets) ≡ states
      now_sized = length-next code some re im mets

      steady_plain : (n % turns ≡ turns - 1 → ⊥) → Steady (suc n) (next code re im mets)
      steady_plain other =
          let here : n % turns < turns - 1 = omega arith in
          let more : highest code (suc n) ≡ highest code n + dearest = omega arith in
          record { sized = now_sized; spreads = λ j h. rw more (go j (omega arith)) }
        where
          go : (j : ℕ) → j ≤ suc (n % turns) → Spread code (highest code n + dearest) j (next code re im mets)
          go zero h = again (highest code n + dearest) 1 (next code re im mets) (omega arith) (longer 0 zero-le)
          go (suc j) h = longer j (omega arith)

      steady_normalised : n % turns ≡ turns - 1 → Steady (suc n) (normalised states (next code re im mets))
      steady_normalised e =
          let cells : suc (code.width - 1) ≡ code.width = omega arith in
          let v =
          subst (λ (j : ℕ). Spread code (highest code n + dearest) j (next code re im mets)) cells
          (longer (code.width - 1) (omega arith)) in
          let all = spread_ends code (highest code n + dearest) (next code re im mets) (omega arith) v in
          let regroup : suc v.low + dearest * code.width ≡ v.low + apart code = omega arith in
          let lies =
          normalised_up_to states (pow_pos code.width) (next code re im mets) now_sized v.low (apart code) (omega arith)
          (λ s h. rw regroup at (all s h)) in
          steady_at_first (suc n) (normalised states (next code re im mets)) (omega arith)
          (length-normalised states (next code re im mets) ∙ now_sized) (λ s h. inr (lies s h))
          (up_to_below (omega arith) (lies 0 (pow_pos code.width)))

  -- ---- for ever

  module _ (lag : ℕ) where
    steady_fed :
        (st : State) (n : ℕ) (x : Symbol) → Good x → st.turn ≡ n % turns → Steady n st.pm →
        Steady (suc n) (fed code lag st x.re x.im).pm
    unfolding fed new_mets stepped
    steady_fed st n x good turn was = go (eqb (st.turn % turns) (turns - 1)) refl
      where
        after_it : List Float
        after_it = next code x.re x.im st.pm

        go : (b : Bool) → eqb (st.turn % turns) (turns - 1) ≡ b → Steady (suc n) (cond b (normalised states after_it) after_it)
        go true e =
            let due = eqb-true (st.turn % turns) (turns - 1) e in
            steady_normalised x.re x.im good.re_within good.im_within n st.pm was (omega (arith, due))
        go false e =
            let not_due = eqb-false (st.turn % turns) (turns - 1) e in
            steady_plain x.re x.im good.re_within good.im_within n st.pm was (λ f. not_due (omega arith))

    steady : (xs : List Symbol) → AllGood xs → Steady (length xs) (after_fresh code lag xs).pm
    unfolding after fresh
    steady [] all = steady_fresh
    steady (x ∷ earlier) all =
        steady_fed (after_fresh code lag earlier) (length earlier) x all.0 (turn_after code lag earlier) (steady earlier all.1)

    -- the metric of the state s after symbols
    abbrev pub metric_after : List Symbol → ℕ → Float
    metric_after xs s = get_or (after_fresh code lag xs).pm s mark

    pub metric_mark_or_up_to :
        (xs : List Symbol) → AllGood xs → (s : ℕ) → s < states → MarkOrUpTo (highest code (length xs)) (metric_after xs s)
    metric_mark_or_up_to xs all s h = range_up_to (((steady xs all).spreads 0 zero-le).all s h)

    pub some_reached : (xs : List Symbol) → AllGood xs → (s : ℕ) × (s < states) × (smallest.reached (metric_after xs s) ≡ true)
    some_reached xs all =
        let v = (steady xs all).spreads 0 zero-le in (
          way code v.source 0 0,
          way_below code v.source 0 0,
          spread_reaches code (highest code (length xs)) 0 (after_fresh code lag xs).pm (omega arith) v 0,
        )

    pub metric_bounded :
        (xs : List Symbol) → AllGood xs → (s : ℕ) → s < states → smallest.reached (metric_after xs s) ≡ true →
        (le zero32 (metric_after xs s) ≡ true) × (lt (metric_after xs s) metric_bound ≡ true)
    metric_bounded xs all s h r =
        let u = reached_up_to (metric_mark_or_up_to xs all s h) r in
        let few : highest code (length xs) ≤ 2 ^ 17 - 1 = omega arith in
        let below : highest code (length xs) * 2 ^ scale < 2 ^ 30 =
        lt_of_le_of_lt (mul-le-mul_right (2 ^ scale) few) (lit< tt) in
        (zero_at_most scale u, lt_value u metric_bound (2 ^ 30) (unfold of_bits in (refl, refl)) below)
