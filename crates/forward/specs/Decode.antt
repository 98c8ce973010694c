-- The block decoder of readings: its word, its score, and what it leaves in scratch. Each is the definition of crate
-- `correlation`, over any kind of decoder, in f32. Definitions only.
use Rattle.std.specs.Prelude.{List, ℕ, Float}
use Rattle.correlation.specs.Decode as any
use Rattle.trellis.specs.declared.ConvCode.{ConvCode}
use Rattle.trellis.specs.Keep.{Keep}
use Rattle.forward.specs.Sums.{soft}

module _ (code : ConvCode) (p : Keep) (readings : List Float) where
  -- the metrics after t steps, and the survivors of step t
  abbrev pub mets : ℕ → List Float
  mets t = any.mets soft code p readings t

  abbrev pub froms : ℕ → List ℕ
  froms t = any.froms soft code p readings t

  -- traceback starts from state 0; the tail is dropped
  abbrev pub word : ℕ → List ℕ
  word info = any.word soft code p readings info

  -- the winning score: state 0's last metric
  abbrev pub score : ℕ → Float
  score info = any.score soft code p readings info

  -- the survivor numbers of t steps, row by row
  abbrev pub filled_rows : ℕ → List ℕ
  filled_rows t = any.filled_rows soft code p readings t
