-- The turns of a step's loop, by the metrics as a decoder holds them: what they stand for is what a butterfly's turns store, and
-- each is one of one more step. Assumes nothing.
use mathlib.Core.List.{List, map}
use mathlib.Core.Path.{◌≡◌, refl, sym, ap, subst, ◌∙◌}
use Prim.Native.Nat.{ℕ, ◌+◌, ◌-◌, ◌*◌, ◌^◌, ◌≤◌, ◌<◌}
use native.Mathlib.Decide.{dec_lt}
use native.Mathlib.Omega.{arith}
use lib.ListN.{length, get_or, set, length-set, length-map, get_or-map}
use lib.Seq.{get_or-set_same, get_or-set_other}
use Rattle.best_path.specs.Pair.{Room}
use Rattle.best_path.specs.declared.pair.Wing.{Wing}
use Rattle.best_path.proofs.Survivors.{any-default}
use Rattle.correlation.proofs.Sides.{Lawful}
use Rattle.correlation.proofs.Turn.{Turns, turns_start, turns_go_on, turns_end}
use Rattle.trellis.specs.declared.ConvCode.{ConvCode}
use Rattle.trellis.specs.Inner.{Crossed}
use Rattle.trellis.proofs.States.{states_two_halves}
use Rattle.steps.specs.Holding.{Holding, kind_of}
use Rattle.steps.specs.Inner.{values, AllNear, Turned, Steps}
use Rattle.steps.proofs.Lists.{map-set}

-- each new metric so far has a property; d stands for one past the end
abbrev HoldBelow : {N : Type 0} → (N → Type 0) → N → (half : ℕ) → List N → ℕ → Type 0
HoldBelow Holds d half next n = (j : ℕ) → j < n → Holds (get_or next j d) × Holds (get_or next (j + half) d)

-- two more are stored
module _
    {N : Type 0} (Holds : N → Type 0) (d : N) (half : ℕ) (next : List N) (long : 2 * half ≤ length next) (n : ℕ) (h : n < half)
    (x y : N) (of_x : Holds x) (of_y : Holds y) where
  abbrev after : List N
  after = set (set next n x) (n + half) y

  at_low : get_or after n d ≡ x
  at_low = get_or-set_other (set next n x) (n + half) n y d (λ e. omega arith) ∙ get_or-set_same next n x d (omega arith)

  at_high : get_or after (n + half) d ≡ y
  at_high = get_or-set_same (set next n x) (n + half) y d (omega (arith, length-set next n x))

  elsewhere : (i : ℕ) → (i ≡ n → ⊥) → (i ≡ n + half → ⊥) → get_or after i d ≡ get_or next i d
  elsewhere i p q = get_or-set_other (set next n x) (n + half) i y d q ∙ get_or-set_other next n i x d p

  two_stored : HoldBelow Holds d half next n → HoldBelow Holds d half after (n + 1)
  two_stored below j g =
      elim (dec_lt j n) [
        | yes k ↦ (
          rw (elsewhere j (λ e. omega arith) (λ e. omega arith)) (below j k).0,
          rw (elsewhere (j + half) (λ e. omega arith) (λ e. omega arith)) (below j k).1,
        )
        | no k ↦ let same : j ≡ n = omega (arith, k) in (rw (same, at_low) of_x, rw (same, at_high) of_y)
      ]

all_stored :
    {N : Type 0} (held : Holding N) {code : ConvCode} {half bound : ℕ} {next : List N} → 0 < code.width →
    half ≡ 2 ^ (code.width - 1) → HoldBelow (held.pair.Near bound) held.on.zero half next half → AllNear held code bound next
all_stored held {code} {half} {bound} {next} some halved below = record { each = each }
  where
    each : (s : ℕ) → s < 2 ^ code.width → held.pair.Near bound (get_or next s held.on.zero)
    each s h =
        elim (dec_lt s half) [
          | yes k ↦ (below s k).0
          | no k ↦ let back : (s - half) + half ≡ s = omega (arith, k) in
              subst (λ (i : ℕ). held.pair.Near bound (get_or next i held.on.zero)) back
              (below (s - half) (omega (arith, k, states_two_halves code some))).1
        ]

-- the room of a state's metric, with any default
pub room_held :
    {N : Type 0} {held : Holding N} {code : ConvCode} {pm : List N} (d : N) {s : ℕ} →
    AllNear held code held.pair.limit pm → s < 2 ^ code.width →
    s < length pm → Room held.pair (get_or pm s d)
room_held {held} {pm} d {s} roomy state within =
    rw (any-default pm s d held.on.zero within) (roomy.each s state)

-- ---- the loop

-- The invariant: after n turns the lists hold what n turns store, and the new metrics are those of one more step.
pub record TurnsHeld
    {N : Type 0} (held : Holding N) (half : ℕ) (c0 c1 : List ℕ) (a b : N) (pm old : List N) (old_row : List ℕ) (next : List N)
    (row : List ℕ) (s n : ℕ) : Type 0 where
  pub turns : Turns (kind_of held) half c0 c1 a b (values held pm) (map held.pair.value old) old_row (map held.pair.value next) row s n
  pub sized : length next ≡ length old
  pub near :
      (code : ConvCode) → Crossed code half c0 c1 → (bound : ℕ) → bound ≤ held.pair.limit → AllNear held code bound pm →
      HoldBelow (held.pair.Near (bound + held.pair.reach)) held.on.zero half next n

pub turns_held_start :
    {N : Type 0} (held : Holding N) {half : ℕ} {c0 c1 : List ℕ} {a b : N} {pm old : List N} {old_row : List ℕ} →
    TurnsHeld held half c0 c1 a b pm old old_row old old_row 0 0
turns_held_start held =
    record { turns = turns_start; sized = refl; near = λ code crossed bound few all j h. absurd (omega (arith, h)) }

module _
    {N : Type 0} {held : Holding N} {half : ℕ} {c0 c1 : List ℕ} {a b : N} {pm old : List N} {old_row : List ℕ} {next : List N}
    {row : List ℕ} {s n : ℕ} (now : TurnsHeld held half c0 c1 a b pm old old_row next row s n) where
  -- a turn, by what it says of the metrics of its two states
  module _
      (lawful : Lawful held.on) (h : n < half) (long : 2 * half ≤ length old) {m0 m1 : N}
      (of_even : m0 ≡ get_or pm (2 * n) held.on.zero) (of_odd : m1 ≡ get_or pm (2 * n + 1) held.on.zero) {w : Wing N}
      (turned : Turned held (get_or c0 n 0) (get_or c1 n 0) a b m0 m1 s w) where
    -- what a state's metric stands for
    value_at_lem : (i : ℕ) {m : N} → m ≡ get_or pm i held.on.zero → values held pm i ≡ held.pair.value m
    value_at_lem i e = get_or-map held.pair.value pm i held.on.zero ∙ ap held.pair.value (sym e)

    abbrev stored : List N
    stored = set (set next n w.low.met) (n + half) w.high.met

    stored_values :
        map held.pair.value stored
        ≡ set (set (map held.pair.value next) n (held.pair.value w.low.met)) (n + half) (held.pair.value w.high.met)
    stored_values =
        map-set held.pair.value (set next n w.low.met) (n + half) w.high.met
        ∙ ap (λ (l : List held.pair.Value). set l (n + half) (held.pair.value w.high.met)) (map-set held.pair.value next n w.low.met)

    new_near :
        (code : ConvCode) → Crossed code half c0 c1 → (bound : ℕ) → bound ≤ held.pair.limit → AllNear held code bound pm →
        held.pair.Near (bound + held.pair.reach) w.low.met × held.pair.Near (bound + held.pair.reach) w.high.met
    new_near code crossed bound few all =
        let states = states_two_halves code crossed.some in
        turned.near bound few (rw of_even (all.each (2 * n) (omega (arith, states, crossed.halved))))
        (rw of_odd (all.each (2 * n + 1) (omega (arith, states, crossed.halved))))

    pub turns_held_go_on :
        {next' : List N} {row' : List ℕ} → next' ≡ stored →
        row' ≡ set (set row n w.low.from) (n + half) w.high.from →
        TurnsHeld held half c0 c1 a b pm old old_row next' row' (s + 2) (n + 1)
    turns_held_go_on e f =
        record {
          turns =
              turns_go_on now.turns lawful h refl refl (rw (value_at_lem (2 * n) of_even, value_at_lem (2 * n + 1) of_odd) turned.led)
              (ap (map held.pair.value) e ∙ stored_values) f;
          sized = rw e (simp length-set now.sized);
          near = λ code crossed bound few all.
              let new = new_near code crossed bound few all in
              rw e
              (two_stored (held.pair.Near (bound + held.pair.reach)) held.on.zero half next (omega (arith, long, now.sized)) n h
              _ _ new.0 new.1 (now.near code crossed bound few all));
        }

  pub turns_held_end :
      {code : ConvCode} → half ≤ n → Crossed code half c0 c1 → 2 * half ≤ length old → 2 * half ≤ length old_row →
      Steps held code pm a b (record { given = old; left = next }) (record { given = old_row; left = row })
  turns_held_end {code} past crossed room room' =
      let end : n ≡ half = omega (arith, now.turns.paired.turns) in
      record {
        selects = turns_end now.turns past crossed (omega (arith, room, length-map old held.pair.value)) room';
        near = λ bound few all.
            all_stored held crossed.some crossed.halved
            (subst (HoldBelow (held.pair.Near (bound + held.pair.reach)) held.on.zero half next) end
            (now.near code crossed bound few all));
      }
