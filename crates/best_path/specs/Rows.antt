-- Rows of survivors, one byte for each state, as a decoder keeps them for the way back. Definitions only.
use Rattle.std.specs.Prelude.{List, [], ◌++◌, ◌≡◌, ℕ, zero, suc, ◌-◌, ◌*◌, ◌^◌, ◌≤◌, ◌<◌, length, get_or, take, drop}
use Rattle.trellis.specs.declared.ConvCode.{ConvCode}
use Rattle.best_path.specs.Path.{wholes}
use Rattle.best_path.specs.Run.{traced}

-- the first t rows, one behind the other
unfoldable pub first_rows : (ℕ → List ℕ) → ℕ → List ℕ
first_rows row zero = []
first_rows row (suc t) = first_rows row t ++ row t

-- the survivors of step i
abbrev pub row_of : ℕ → List ℕ → ℕ → List ℕ
row_of states rows i = take states (drop (i * states) rows)

-- the inputs of the first `info` steps, by the way back over the rows of all steps from the state `last`
abbrev pub spelled : ConvCode → (half : ℕ) (rows : List ℕ) (steps last info : ℕ) → List ℕ
spelled code half rows steps last info = take info (traced wholes code (row_of (2 * half) rows) steps last)

-- A code of at most 64 states, a row of survivors for each step, all of them states, a state to start from, and room
-- for the word.
pub record Traceable (code : ConvCode) (half : ℕ) (rows : List ℕ) (steps last info room : ℕ) : Type 0 where
  pub few : half ≤ 32
  pub halved : half ≡ 2 ^ (code.width - 1)
  pub reached : info ≤ steps
  pub fits : info ≤ room
  pub filled : steps * (2 * half) ≤ length rows
  pub states : (k : ℕ) → k < steps * (2 * half) → get_or rows k 0 < 2 * half
  pub state : last < 2 * half
