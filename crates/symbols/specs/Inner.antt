-- What the inner functions ask and ensure. Definitions only.
use Rattle.std.specs.Prelude.{true, false, cond, List, [], ◌++◌, map, ◌≡◌, ℕ, zero, suc, ◌+◌, ◌*◌, ◌^◌, ◌≤◌}
use Rattle.std.specs.Prelude.{◌<◌, eqb, Float, length, get_or, drop}
use Rattle.std.specs.Float.{nan, inf}
use Rattle.std.specs.Float.Ieee.{lt}
use Rattle.best_path.specs.Step.{Cell, step}
use Rattle.refusal.specs.Lent.{Lent}
use Rattle.refusal.specs.Limits.{most}
use Rattle.trellis.specs.declared.ConvCode.{ConvCode}
use Rattle.trellis.specs.Inner.{Halved, Crossed}
use Rattle.butterflies.specs.Smallest.{mark, smallest}
use Rattle.symbols.specs.Costs.{cost, costs, phasor_of}
use Rattle.symbols.specs.Decode.{first_least, mets, word, filled_rows}
use Rattle.symbols.specs.Said.{phasors_of}
use Rattle.symbols.specs.declared.phasors.Phasor.{Phasor}
use Rattle.symbols.specs.declared.phasors.Prices.{Prices}
use Rattle.symbols.specs.declared.forward_pass.Placed.{Placed}
use Rattle.symbols.specs.declared.forward_pass.Symbols.{Symbols}
use Rattle.symbols.specs.declared.forward_pass.Symbols.TheVariants.{Soft, Hard}

-- the step is for any code of 16 states, and this is half of them
abbrev pub half : ℕ
half = 8

-- ---- what a branch costs

-- `prices_of`: the four costs of a symbol
pub record Priced (re im : Float) (r : Prices) : Type 0 where
  pub of_00 : r.of_00 ≡ cost re im (phasor_of 0 0)
  pub of_01 : r.of_01 ≡ cost re im (phasor_of 0 1)
  pub of_10 : r.of_10 ≡ cost re im (phasor_of 1 0)
  pub of_11 : r.of_11 ≡ cost re im (phasor_of 1 1)

-- `cost_of_pair`: which of the four is a coded pair's
abbrev pub pair_cost : (c0 c1 : ℕ) → Prices → Float
pair_cost c0 c1 r = cond (eqb c0 0) (cond (eqb c1 0) r.of_00 r.of_01) (cond (eqb c1 0) r.of_10 r.of_11)

-- `opposite`: each is the opposite pair's
abbrev pub opposite : Prices → Prices
opposite r = record { of_00 = r.of_11; of_01 = r.of_10; of_10 = r.of_01; of_11 = r.of_00 }

-- ---- one step

-- a step of a symbol that reads re and im, from the metrics as the code holds them
abbrev pub stepped : ConvCode → List Float → Float → Float → List (Cell Float)
stepped code pm re im = step smallest code (λ (s : ℕ). get_or pm s nan) (costs code re im)

abbrev pub new_mets : ConvCode → List Float → Float → Float → List Float
new_mets code pm re im = map (λ (c : Cell Float). c.met) (stepped code pm re im)

abbrev pub new_froms : ConvCode → List Float → Float → Float → List ℕ
new_froms code pm re im = map (λ (c : Cell Float). c.from) (stepped code pm re im)

-- `step`: the coded bits that the even states send, and room for the survivors
pub record Steppable (code : ConvCode) (c0 c1 row : List ℕ) : Type 0 where
  pub crossed : Crossed code half c0 c1
  pub room : 2 * half ≤ length row

-- `step`: the new metrics stand in `next`, the survivors over the front of `row`
pub record Selects
    (code : ConvCode) (pm : List Float) (re im : Float) (next : Lent Float) (row : Lent ℕ) : Type 0 where
  pub mets : next.left ≡ new_mets code pm re im
  pub froms : row.left ≡ new_froms code pm re im ++ drop (2 ^ code.width) row.given

-- ---- the first least state

-- A metric as states are compared by it. A NaN is never smaller than another: it stands as the largest, and at state 0,
-- which only a smaller one takes over from, as the least.
unfoldable pub compared : ℕ → Float → Float
compared zero m = cond (lt (inf true) m) m (inf true)
compared (suc s) m = cond (lt m (inf false)) m (inf false)

abbrev pub compared_in : List Float → ℕ → Float
compared_in pm s = compared s (get_or pm s mark)

-- `least_of_four` and its parts: the first least of n states from lo on
pub record LeastIn (pm : List Float) (lo n : ℕ) (r : Placed) : Type 0 where
  pub as_compared : r.met ≡ compared_in pm r.state
  pub from_lo : lo ≤ r.state
  pub within : r.state < lo + n
  pub none_smaller : (s : ℕ) → lo ≤ s → s < lo + n → lt (compared_in pm s) r.met ≡ false
  pub earlier_larger : (s : ℕ) → lo ≤ s → s < r.state → lt r.met (compared_in pm s) ≡ true

-- ---- where the symbols are

-- The components of a decoding: those at hand, and behind them the phasors of hard bits.
abbrev pub components : List Float → List ℕ → List Float
components soft bits = soft ++ phasors_of bits

-- those of symbols, which are only the one or the other
abbrev pub components_of : Symbols → List Float
components_of (Soft soft) = components soft.now []
components_of (Hard bits) = components [] bits.now

-- so many symbols, within the limit, and all of them there
pub record Counted (soft : List Float) (count : ℕ) : Type 0 where
  pub few : count ≤ most
  pub all_there : 2 * count ≤ length soft

-- `symbol_at`: symbol t has its re at 2t and its im behind that
abbrev pub symbol_at : List Float → ℕ → Phasor
symbol_at soft t = record { re = get_or soft (2 * t) nan; im = get_or soft (2 * t + 1) nan }

-- ---- all symbols

-- `forward`: a code as the step is for, as many symbols as are counted, and room for the survivors of each
pub record Runnable (code : ConvCode) (soft : List Float) (count : ℕ) (rows : List ℕ) : Type 0 where
  pub shape : Halved code half
  pub symbols : Counted soft count
  pub room : count * (2 * half) ≤ length rows

-- `forward`: the first least state r, and the survivors over the front of `rows`
pub record Runs (code : ConvCode) (soft : List Float) (count r : ℕ) (rows : Lent ℕ) : Type 0 where
  pub last : r ≡ first_least (mets code soft count) (2 ^ code.width)
  pub survivors : rows.left ≡ filled_rows code soft count ++ drop (count * 2 ^ code.width) rows.given

-- ---- the decoding

-- `decode`: the same, and room for the word
pub record Decodable
    (code : ConvCode) (soft : List Float) (count : ℕ) (out scratch : List ℕ) : Type 0 where
  pub ready : Runnable code soft count scratch
  pub room : count ≤ length out

-- `decode`: the word over the front of `out`, and the survivors over that of `scratch`
pub record Finds (code : ConvCode) (soft : List Float) (count : ℕ) (out scratch : Lent ℕ) : Type 0 where
  pub output : out.left ≡ word code soft count ++ drop count out.given
  pub survivors : scratch.left ≡ filled_rows code soft count ++ drop (count * 2 ^ code.width) scratch.given
