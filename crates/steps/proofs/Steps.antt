-- Steps one after the other, by the metrics as a decoder holds them: after t steps they stand for those of the definition, and
-- none is further off than t steps take it. Assumes nothing.
use mathlib.Core.Bool.{Bool, true, false}
use mathlib.Core.List.{List, ◌++◌, map}
use mathlib.Core.Path.{◌≡◌, refl, ap, ap₂, subst, ◌∙◌}
use Prim.Native.Nat.{ℕ, zero, suc, ◌+◌, ◌-◌, ◌*◌, ◌%◌, ◌^◌, ◌≤◌, ◌<◌}
use native.Mathlib.Nat.{le_trans, le_of_lt, mul-suc, mul-le-mul_left}
use native.Mathlib.Omega.{arith}
use lib.Dec.{eqb}
use lib.ListN.{length, get_or, set, take, drop, replicate, length-set, length-map, length-append, length-replicate}
use lib.ListN.{length-take, length-drop}
use lib.ListN.{get_or-replicate, get_or-map}
use lib.Pow.{pow_pos}
use lib.Seq.{get_or-set_other}
use Rattle.best_path.proofs.Survivors.{any-default}
use Rattle.best_path.proofs.Visiting.{length-step}
use Rattle.correlation.specs.Gain.{brings}
use Rattle.correlation.proofs.Steps.{Forwarded, forwarded_starts, forwarded_goes_on, forwarded_ends}
use Rattle.correlation.proofs.Steps.{row_within, first_used, second_used}
use Rattle.refusal.specs.Lent.{Lent}
use Rattle.trellis.specs.declared.ConvCode.{ConvCode}
use Rattle.trellis.specs.declared.KeepPattern.{KeepPattern}
use Rattle.trellis.specs.Choice.{keep_of}
use Rattle.trellis.specs.Places.{value_of, filled}
use Rattle.trellis.specs.Inner.{Crossed}
use Rattle.trellis.proofs.Kept.{one}
use Rattle.trellis.proofs.Places.{reading_value}
use Rattle.trellis.proofs.States.{states_two_halves}
use Rattle.steps.specs.Holding.{Holding, Sound, kind_of}
use Rattle.steps.specs.Inner.{values, AllNear, SteppableOf, Steps, UsedAsked, Runnable, Runs}
use Rattle.steps.proofs.Lists.{map-set, map-replicate}

-- ---- before the first step

module _ {N : Type 0} {held : Holding N} {mark first : N} (sound : Sound held mark first) where
  abbrev start_mets : List N
  start_mets = set (replicate 64 mark) 0 first

  start_values : map held.pair.value start_mets ≡ set (replicate 64 held.pair.op.mark) 0 held.first
  start_values =
      map-set held.pair.value (replicate 64 mark) 0 first
      ∙ ap₂ (λ (l : List held.pair.Value) (m : held.pair.Value). set l 0 m)
      (map-replicate held.pair.value 64 mark ∙ ap (replicate 64) sound.of_mark) sound.of_first

  start_near : (code : ConvCode) → 2 ^ code.width ≤ 64 → AllNear held code 0 start_mets
  start_near code few = record { each = each }
    where
      each : (s : ℕ) → s < 2 ^ code.width → held.pair.Near 0 (get_or start_mets s held.on.zero)
      each zero h = sound.first_near
      each (suc s) h =
          rw (
            get_or-set_other (replicate 64 mark) 0 (suc s) first held.on.zero (λ e. omega arith),
            get_or-replicate 64 (suc s) mark held.on.zero (omega (arith, h, few)),
          )
          sound.mark_near

  -- ---- a larger bound

  all_nearer : {code : ConvCode} {bound more : ℕ} {pm : List N} → bound ≤ more → AllNear held code bound pm → AllNear held code more pm
  all_nearer {bound} {more} {pm} h near =
      record { each = λ s k. sound.nearer bound more h (get_or pm s held.on.zero) (near.each s k) }

  -- ---- what is read

  -- a kept place reads a used reading, the others zero
  value_asked :
      (readings : List N) (n : ℕ) (kept : Bool) → (kept ≡ true → held.Asked (get_or readings n held.on.zero)) →
      held.Asked (value_of held.on.zero (filled kept readings n))
  value_asked readings n true used = rw (reading_value held.on.zero readings n) (used refl)
  value_asked readings n false used = sound.zero_asked

one_more : (k t : ℕ) → k * t + k ≤ k * (t + 1)
one_more k t = omega (arith, mul-suc k t)

-- ---- the loop

-- The invariant: after t steps the metrics stand for the definition's, and none is further off than t steps take it.
pub record ForwardedHeld
    {N : Type 0} (held : Holding N) (code : ConvCode) (half : ℕ) (keep : KeepPattern) (readings : List N) (steps : ℕ)
    (old c0 c1 : List ℕ) (rows : List ℕ) (pm : List N) (column at to t : ℕ) : Type 0 where
  pub forwarded :
      Forwarded (kind_of held) (held.pair.value held.on.zero) code half keep readings steps old c0 c1 rows
      (map held.pair.value pm) column at to t
  pub used : UsedAsked held (keep_of keep) steps readings
  pub near : AllNear held code (held.pair.reach * t) pm
  pub some_held : 0 < length pm

pub held_starts :
    {N : Type 0} {held : Holding N} {mark first : N} → Sound held mark first →
    {code : ConvCode} {half : ℕ} {keep : KeepPattern} {readings : List N} {steps : ℕ} {old c0 c1 : List ℕ} →
    Runnable held code half keep readings steps old → Crossed code half c0 c1 →
    ForwardedHeld held code half keep readings steps old c0 c1 old (set (replicate 64 mark) 0 first) 0 0 0 0
held_starts sound {code} ready crossed =
    record {
      forwarded = rw (start_values sound) (forwarded_starts ready.shaped crossed);
      used = ready.used;
      near =
          all_nearer sound (omega arith)
          (start_near sound code (omega (arith, states_two_halves code crossed.some, crossed.halved, crossed.few)));
      some_held = simp (length-set, length-replicate) (omega arith);
    }

module _
    {N : Type 0} {held : Holding N} {code : ConvCode} {half : ℕ} {keep : KeepPattern} {readings : List N} {steps : ℕ}
    {old c0 c1 : List ℕ} {rows : List ℕ} {pm : List N} {column at to t : ℕ}
    (now : ForwardedHeld held code half keep readings steps old c0 c1 rows pm column at to t) where
  pub held_ends :
      steps ≤ t → (d : N) →
      Runs held code (keep_of keep) (2 * half) steps readings (get_or pm 0 d) (record { given = old; left = rows })
  held_ends past d =
      let end : t ≡ steps = omega (arith, now.forwarded.turns) in
      rw (any-default pm 0 d held.on.zero now.some_held)
      (record {
        ran = rw (← get_or-map held.pair.value pm 0 held.on.zero) (forwarded_ends now.forwarded past);
        near =
            subst (λ (n : ℕ). held.pair.Near (held.pair.reach * n) (get_or pm 0 held.on.zero)) end
            (now.near.each 0 (pow_pos code.width));
      })

  -- what the columns of the step keep
  abbrev first : Bool
  first = eqb (get_or keep.row0 column 0) 1

  abbrev second : Bool
  second = eqb (get_or keep.row1 column 0) 1

  -- a step
  module _ {mark start : N} (sound : Sound held mark start) (h : t < steps) where
    -- 65,536 steps leave room
    few_steps : held.pair.reach * t ≤ held.pair.limit
    few_steps =
        le_trans (mul-le-mul_left held.pair.reach (le_of_lt (omega (arith, h, now.forwarded.ready.few)))) sound.room

    -- the new metrics are no fewer than the states
    some_left : {a b : N} {next : Lent N} {row : Lent ℕ} → Steps held code pm a b next row → 0 < length next.left
    some_left {a} {b} {next} on =
        let some = now.forwarded.crossed.some in
        let sized = length-step held.pair.op code some (values held pm) (brings held.on code a b) in
        omega (arith, simp (length-map, length-append, sized) at (ap length on.selects.mets), pow_pos code.width)

    roomy : AllNear held code held.pair.limit pm
    roomy = all_nearer sound few_steps now.near

    -- what its two places read, and the numbers of the readings behind them
    first_asked : {a : N} → a ≡ value_of held.on.zero (filled first readings at) → held.Asked a
    first_asked of_a = rw of_a (value_asked sound readings at first (λ e. now.used.each at (first_used now.forwarded h e)))

    module _ {middle : ℕ} (of_middle : middle ≡ at + one first) where
      second_asked : {b : N} → b ≡ value_of held.on.zero (filled second readings middle) → held.Asked b
      second_asked of_b =
          rw of_b (value_asked sound readings middle second (λ e. now.used.each middle (second_used now.forwarded h of_middle e)))

      pub step_ready :
          {a b : N} → a ≡ value_of held.on.zero (filled first readings at) →
          b ≡ value_of held.on.zero (filled second readings middle) →
          SteppableOf held code half c0 c1 a b pm (take (length rows - to) (drop to rows))
      step_ready of_a of_b =
          let within = row_within now.forwarded h in
          record {
            ready =
                record {
                  shaped =
                      record { crossed = now.forwarded.crossed; room = simp (length-take, length-drop) (omega (arith, within)) };
                  first = first_asked of_a;
                  second = second_asked of_b;
                  roomy = roomy;
                };
            compiled = now.forwarded.ready.compiled;
          }

      pub held_goes_on :
          {a b : N} {end : ℕ} → a ≡ value_of held.on.zero (filled first readings at) →
          b ≡ value_of held.on.zero (filled second readings middle) → end ≡ middle + one second →
          {next next' : List N} {part : List ℕ} {column' to' : ℕ} →
          Steps held code pm a b (record { given = next; left = next' })
          (record { given = take (length rows - to) (drop to rows); left = part }) →
          to' ≡ to + 2 * half → column' ≡ (column + 1) % keep.period →
          ForwardedHeld held code half keep readings steps old c0 c1
          (take to rows ++ (part ++ drop (length rows - to) (drop to rows))) next' column' end to' (t + 1)
      held_goes_on of_a of_b of_end on place' counted' =
          record {
            forwarded = forwarded_goes_on now.forwarded h of_a of_middle of_b of_end on.selects place' counted';
            used = now.used;
            near = all_nearer sound (one_more held.pair.reach t) (on.near (held.pair.reach * t) few_steps now.near);
            some_held = some_left on;
          }
