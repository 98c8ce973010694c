-- A decoder of readings, of any kind: its word, its score, and what it leaves in scratch. Definitions only.
use Rattle.std.specs.Prelude.{List, ℕ}
use Rattle.std.proofs.Math.ListN.{get_or, take}
use Rattle.best_path.specs.Rows.{first_rows}
use Rattle.best_path.specs.Run.{started_at, mets_after, survivors, traced}
use Rattle.trellis.specs.declared.ConvCode.{ConvCode}
use Rattle.trellis.specs.Codeword.{steps_of}
use Rattle.trellis.specs.Keep.{Keep}
use Rattle.correlation.specs.Arithmetic.{Kind}
use Rattle.correlation.specs.Gain.{gain}

module _ {A M : Type 0} (kind : Kind A M) (code : ConvCode) where
  -- state 0 starts at its metric, the others are not reached
  abbrev pub started : List M
  started = started_at kind.op code kind.first

  module _ (p : Keep) (readings : List A) where
    -- the metrics after t steps, and the survivors of step t
    unfoldable pub mets : ℕ → List M
    unfolding mets_after gain
    mets t = mets_after kind.op code (gain kind.on code p readings) started t

    unfoldable pub froms : ℕ → List ℕ
    unfolding survivors gain
    froms t = survivors kind.op code (gain kind.on code p readings) started t

    -- traceback starts from state 0; the tail is dropped
    unfoldable pub word : ℕ → List ℕ
    unfolding traced froms
    word info = take info (traced kind.op code froms (steps_of code info) 0)

    -- the winning score: state 0's last metric
    unfoldable pub score : ℕ → M
    unfolding mets
    score info = get_or (mets (steps_of code info)) 0 kind.op.mark

    -- the survivor numbers of t steps, row by row
    abbrev pub filled_rows : ℕ → List ℕ
    filled_rows t = first_rows froms t
