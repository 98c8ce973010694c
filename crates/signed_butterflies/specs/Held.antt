-- Metrics as the code holds them, in 32 bits, and what the functions ask and ensure. Which total a metric stands for is
-- `total_of`; that no sum overflows comes of `Near`. Definitions only.
use Rattle.std.specs.Prelude.{cond, ◌⊎◌, ℕ, ◌^◌, ◌≤◌, ◌<◌, eqb, ℤ, pos, negsuc, neg_ℤ, nat_abs, ◌+ℤ◌, ◌-ℤ◌}
use Rattle.std.specs.Int.Signed.{lt_z}
use Rattle.best_path.specs.Pair as any
use Rattle.best_path.specs.Path.{Total, none, total, wholes}
use Rattle.best_path.specs.Step.{Cell}
use Rattle.best_path.specs.declared.pair.NewState.{NewState}
use Rattle.best_path.specs.declared.pair.Wing.{Wing}

-- ---- what is added

-- a reading: from −127 to 127
pub record Byte (a : ℤ) : Type 0 where
  pub small : nat_abs a ≤ 127

-- a reading, or its negative where the coded bit is 1
abbrev pub side : ℕ → ℤ → ℤ
side coded a = cond (eqb coded 0) a (neg_ℤ a)

-- what a branch brings: two readings
pub record Gained (g : ℤ) : Type 0 where
  pub small : nat_abs g ≤ 254

-- ---- metrics

-- −2^29: below it a metric stands for no total
abbrev pub floor : ℤ
floor = negsuc 536870911

-- so of the two this is not better
abbrev pub under_floor : ℤ
under_floor = negsuc 536870912

-- the least number of 32 bits
abbrev pub least : ℤ
least = negsuc 2147483647

-- the total that a metric stands for
unfoldable pub total_of : ℤ → Total
total_of x = cond (lt_z x floor) none (total x)

-- A metric is a sum of at most that size, or it is that near to −2^30, where a state that is not reached starts.
pub record Near (bound : ℕ) (x : ℤ) : Type 0 where
  pub near : (nat_abs x ≤ bound) ⊎ (nat_abs (x +ℤ pos 1073741824) ≤ bound)

-- room for one more step
abbrev pub Room : ℤ → Type 0
Room x = Near (2 ^ 28) x

-- a step takes a metric no further than two readings are
abbrev pub wholes_held : any.Held ℤ
wholes_held =
    record {
      Value = Total;
      value = total_of;
      op = wholes;
      better = λ (x z : ℤ). lt_z z x;
      candidate = λ (m x : ℤ). m +ℤ x;
      Small = Gained;
      Near = Near;
      limit = 2 ^ 28;
      reach = 254;
    }

-- ---- the functions

-- a new state as the code holds it
abbrev pub cell_of : NewState ℤ → Cell Total
cell_of z = record { met = total_of z.met; from = z.from }

-- the states s and s + 1, of metrics m0 and m1, on either input; the new metrics are not much larger
abbrev pub Summed : (m0 m1 : ℤ) (s : ℕ) (x y : ℤ) → Wing ℤ → Type 0
Summed m0 m1 s x y r = any.Summed wholes_held m0 m1 s x y r

-- `turn`: two readings, and room for the sums with them
pub record Turnable (a b m0 m1 : ℤ) (s : ℕ) : Type 0 where
  pub state : s < 255
  pub first : Byte a
  pub second : Byte b
  pub even : Room m0
  pub odd : Room m1

-- `turn`: that butterfly, by what the coded pair c0 c1 and its opposite bring where the step reads a and b
abbrev pub Turned : (c0 c1 : ℕ) (a b m0 m1 : ℤ) (s : ℕ) → Wing ℤ → Type 0
Turned c0 c1 a b m0 m1 s r =
    Summed m0 m1 s (side c0 a +ℤ side c1 b) (neg_ℤ (side c0 a) -ℤ side c1 b) r
