-- What the functions ask and ensure, by the metrics as a decoder holds them: those stand for the metrics of the
-- definitions, which are in crate `correlation`. Definitions only.
use Rattle.std.specs.Prelude.{cond, List, map, ◌≡◌, ℕ, ◌+◌, ◌*◌, ◌^◌, ◌≤◌, ◌<◌, eqb, get_or}
use Rattle.best_path.specs.Pair.{Room, Summed}
use Rattle.best_path.specs.declared.pair.Wing.{Wing}
use Rattle.correlation.specs.Inner as any
use Rattle.refusal.specs.Lent.{Lent}
use Rattle.trellis.specs.declared.ConvCode.{ConvCode}
use Rattle.trellis.specs.declared.KeepPattern.{KeepPattern}
use Rattle.trellis.specs.Choice.{keep_of}
use Rattle.trellis.specs.Codeword.{steps_of}
use Rattle.trellis.specs.Keep.{Keep}
use Rattle.steps.specs.Holding.{Holding, kind_of}

module _ {N : Type 0} (held : Holding N) where
  -- ---- metrics as the code holds them

  -- what they stand for, and what those of a lent list of them do
  abbrev pub values : List N → ℕ → held.pair.Value
  values pm s = get_or (map held.pair.value pm) s (held.pair.value held.on.zero)

  abbrev pub values_lent : Lent N → Lent held.pair.Value
  values_lent next = record { given = map held.pair.value next.given; left = map held.pair.value next.left }

  -- the metrics of the code's states, each of them that near
  pub record AllNear (code : ConvCode) (bound : ℕ) (pm : List N) : Type 0 where
    pub each : (s : ℕ) → s < 2 ^ code.width → held.pair.Near bound (get_or pm s held.on.zero)

  -- ---- one turn

  -- a reading, or its negative where the coded bit is 1
  abbrev pub side : ℕ → N → N
  side coded a = cond (eqb coded 0) a (held.on.negative a)

  -- `turn`: two readings, and room for the sums with them
  pub record Turnable (a b m0 m1 : N) (s : ℕ) : Type 0 where
    pub state : s < 255
    pub first : held.Asked a
    pub second : held.Asked b
    pub even : Room held.pair m0
    pub odd : Room held.pair m1

  -- `turn`: the states s and s + 1, of metrics m0 and m1, on either input, by what the coded pair c0 c1 and its
  -- opposite bring where the step reads a and b; the new metrics are not much further off
  abbrev pub Turned : (c0 c1 : ℕ) (a b m0 m1 : N) (s : ℕ) → Wing N → Type 0
  Turned c0 c1 a b m0 m1 s r =
      Summed held.pair m0 m1 s (held.on.plus (side c0 a) (side c1 b))
      (held.on.minus (held.on.negative (side c0 a)) (side c1 b)) r

  -- ---- one step

  -- `step`: readings, and metrics with room for one more step
  pub record Steppable
      (code : ConvCode) (half : ℕ) (c0 c1 : List ℕ) (a b : N) (pm : List N) (row : List ℕ) : Type 0 where
    pub shaped : any.Steppable code half c0 c1 row
    pub first : held.Asked a
    pub second : held.Asked b
    pub roomy : AllNear code held.pair.limit pm

  -- `step_of`: the same, for the numbers of states that the loop is compiled for
  pub record SteppableOf
      (code : ConvCode) (half : ℕ) (c0 c1 : List ℕ) (a b : N) (pm : List N) (row : List ℕ) : Type 0 where
    pub ready : Steppable code half c0 c1 a b pm row
    pub compiled : any.Compiled half

  -- `step`, `step_of`: what the new metrics stand for, and that none is much further off
  pub record Steps (code : ConvCode) (pm : List N) (a b : N) (next : Lent N) (row : Lent ℕ) : Type 0 where
    pub selects : any.Selects (kind_of held) code (values pm) a b (values_lent next) row
    pub near :
        (bound : ℕ) → bound ≤ held.pair.limit → AllNear code bound pm → AllNear code (bound + held.pair.reach) next.left

  -- ---- all steps

  -- the readings that so many steps use, of which each is as asked
  abbrev pub UsedAsked : (p : Keep) (steps : ℕ) (readings : List N) → Type 0
  UsedAsked p steps readings = any.UsedEach held.Asked held.on.zero p steps readings

  -- `value_at`: so is the reading of a kept place
  abbrev pub KeptAsked : (column : ℕ) → List N → (at : ℕ) → Type 0
  KeptAsked column readings at = column ≡ 1 → held.Asked (get_or readings at held.on.zero)

  -- `forward`
  pub record Runnable
      (code : ConvCode) (half : ℕ) (keep : KeepPattern) (readings : List N) (steps : ℕ) (rows : List ℕ) : Type 0 where
    pub shaped : any.Runnable code half keep steps rows
    pub used : UsedAsked (keep_of keep) steps readings

  -- `forward`: what state 0's last metric stands for, how far it is after so many steps, and the survivors
  pub record Runs
      (code : ConvCode) (p : Keep) (states steps : ℕ) (readings : List N) (r : N) (rows : Lent ℕ) : Type 0 where
    pub ran : any.Runs (kind_of held) code p states steps readings (held.pair.value r) rows
    pub near : held.pair.Near (held.pair.reach * steps) r

  -- ---- the decoding

  -- `decode`
  pub record Decodable
      (code : ConvCode) (half : ℕ) (keep : KeepPattern) (readings : List N) (info : ℕ) (out scratch : List ℕ)
      : Type 0 where
    pub shaped : any.Decodable code half keep info out scratch
    pub used : UsedAsked (keep_of keep) (steps_of code info) readings

  -- `decode`: what the score stands for, how far it is after all steps, the word and the survivors
  pub record Finds
      (code : ConvCode) (p : Keep) (states info : ℕ) (readings : List N) (r : N) (out scratch : Lent ℕ) : Type 0 where
    pub found : any.Finds (kind_of held) code p states info readings (held.pair.value r) out scratch
    pub near : held.pair.Near (held.pair.reach * steps_of code info) r
