-- What the functions ask and ensure. Definitions only.
use Rattle.std.specs.Prelude.{List, ◌≡◌, ℕ, ◌+◌, ◌-◌, ◌*◌, ◌%◌, ◌^◌, ◌≤◌, ◌<◌, length, get_or, take}
use Rattle.trellis.specs.declared.Selected.{Selected}
use Rattle.trellis.specs.declared.ConvCode.{ConvCode}
use Rattle.trellis.specs.declared.KeepPattern.{KeepPattern}
use Rattle.trellis.specs.declared.Pair.{Pair}
use Rattle.trellis.specs.declared.Planes.{Planes}
use Rattle.trellis.specs.Choice.{code_of, pattern_of, held_of}
use Rattle.trellis.specs.Keep.{ones_of}
use Rattle.trellis.specs.State.{window, parity_of}

-- `choose`: the code and the keep pattern of two numbers
pub record Chooses (code rate : ℕ) (r : Selected) : Type 0 where
  pub taps : r.code ≡ code_of code
  pub rows : r.keep ≡ held_of (pattern_of code rate)

-- a register of at least one cell, whose window fits a u32 with room to spare
pub record Narrow (code : ConvCode) : Type 0 where
  pub some : 0 < code.width
  pub narrow : code.width ≤ 16

-- a branch: such a code, a state of it and an input bit
pub record Branch (code : ConvCode) (s b : ℕ) : Type 0 where
  pub held : Narrow code
  pub state : s < 2 ^ code.width
  pub bit : b < 2

-- `branch_bits`: the coded bits of a branch
pub record Branched (code : ConvCode) (s b : ℕ) (r : Pair) : Type 0 where
  pub first : r.c0 ≡ parity_of code.g0 (window code s b)
  pub second : r.c1 ≡ parity_of code.g1 (window code s b)

-- tap words that reach from the register's oldest cell to the input, and no further: each has its lowest bit and its
-- top bit set
pub record Ends (code : ConvCode) : Type 0 where
  pub low0 : code.g0 % 2 ≡ 1
  pub low1 : code.g1 % 2 ≡ 1
  pub top0 : 2 ^ code.width ≤ code.g0
  pub top1 : 2 ^ code.width ≤ code.g1
  pub within0 : code.g0 < 2 * 2 ^ code.width
  pub within1 : code.g1 < 2 * 2 ^ code.width

-- A code of at most 64 states, twice half of them, whose tap words have their end bits set.
pub record Halved (code : ConvCode) (half : ℕ) : Type 0 where
  pub held : Narrow code
  pub few : half ≤ 32
  pub halved : half ≡ 2 ^ (code.width - 1)
  pub ends : Ends code

-- The same, and for each even state 2n the coded bits that it sends on the input 0.
pub record Crossed (code : ConvCode) (half : ℕ) (c0 c1 : List ℕ) : Type 0 where
  pub some : 0 < code.width
  pub few : half ≤ 32
  pub halved : half ≡ 2 ^ (code.width - 1)
  pub ends : Ends code
  pub first : (n : ℕ) → n < half → get_or c0 n 0 ≡ parity_of code.g0 (window code (2 * n) 0)
  pub second : (n : ℕ) → n < half → get_or c1 n 0 ≡ parity_of code.g1 (window code (2 * n) 0)

-- A table of 32 places with nothing from n on.
pub record Blank (n : ℕ) (table : List ℕ) : Type 0 where
  pub sized : length table ≡ 32
  pub rest : (k : ℕ) → n ≤ k → get_or table k 0 ≡ 0

-- `sent_by_even`: those bits as tables, with nothing behind them
pub record SendsEven (code : ConvCode) (half : ℕ) (r : Planes) : Type 0 where
  pub crossed : Crossed code half r.c0 r.c1
  pub rest0 : Blank half r.c0
  pub rest1 : Blank half r.c1

-- a keep pattern as the code holds it: at least one column counts, and each row has those that count
pub record Rows (m : KeepPattern) : Type 0 where
  pub some : 0 < m.period
  pub seven : m.period ≤ 7
  pub room0 : m.period ≤ length m.row0
  pub room1 : m.period ≤ length m.row1

-- `ones_in`: the ones of a row
pub record OnesIn (row : List ℕ) (r : ℕ) : Type 0 where
  pub counted : r ≡ ones_of row
  pub few : r ≤ length row

-- some of the columns that count
pub record Columns (m : KeepPattern) (n : ℕ) : Type 0 where
  pub rows : Rows m
  pub within : n ≤ m.period

-- `KeepPattern::ones`: the ones in the first n columns of both rows
pub record OnesOfColumns (m : KeepPattern) (n r : ℕ) : Type 0 where
  pub counted : r ≡ ones_of (take n m.row0) + ones_of (take n m.row1)
  pub few : r ≤ 2 * n

-- `coded_len`: such a keep pattern, and steps within 32 bits
pub record Measurable (keep : KeepPattern) (steps : ℕ) : Type 0 where
  pub rows : Rows keep
  pub few : steps < 2 ^ 32
