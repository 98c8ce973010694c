-- What the inner functions ask and ensure. Definitions only.
use Rattle.std.specs.Prelude.{List, ◌≡◌, ℕ, ◌≤◌, eqb, length}
use Rattle.refusal.specs.Lent.{over, Lent}
use Rattle.trellis.specs.declared.ConvCode.{ConvCode}
use Rattle.trellis.specs.declared.KeepPattern.{KeepPattern}
use Rattle.trellis.specs.declared.Selected.{Selected}
use Rattle.trellis.specs.Choice.{pattern_of, keep_of}
use Rattle.trellis.specs.Codeword.{sent_by, lowest_bits}
use Rattle.trellis.specs.Keep.{Keep, only_if, coded_length}
use Rattle.trellis.specs.Inner.{Chooses, Narrow, Rows}

-- what a column of a keep pattern sends of a coded bit: a 1 keeps it
abbrev pub kept_by : (column bit : ℕ) → List ℕ
kept_by column bit = only_if (eqb column 1) bit

-- `encode`: a code and a keep pattern as the code holds them, and room for what the steps send
pub record Ready (code : ConvCode) (keep : KeepPattern) (steps : ℕ) (out : List ℕ) : Type 0 where
  pub narrow : Narrow code
  pub rows : Rows keep
  pub room : coded_length (keep_of keep) steps ≤ length out

-- `encode_at`: what two numbers select, and room for what the steps send
pub record ReadyAt (code rate : ℕ) (chosen : Selected) (steps : ℕ) (out : List ℕ) : Type 0 where
  pub chooses : Chooses code rate chosen
  pub room : coded_length (pattern_of code rate) steps ≤ length out

-- `encode`, `encode_at`: what the steps send stands over the front of `out`
pub record Sends (code : ConvCode) (p : Keep) (steps : ℕ) (bits : List ℕ) (out : Lent ℕ) : Type 0 where
  pub output : out.left ≡ over (sent_by code p (lowest_bits bits) steps) out.given
