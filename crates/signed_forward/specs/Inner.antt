-- How the decoder holds its metrics, which stand for the totals of the decoder in whole numbers, so that no sum
-- overflows; and what it asks of readings. Definitions only.
use Rattle.std.specs.Prelude.{List, ℕ, ℤ, pos, negsuc}
use Rattle.best_path.specs.Path.{total}
use Rattle.correlation.specs.Inner as any
use Rattle.correlation.specs.Whole.{whole}
use Rattle.signed_butterflies.specs.Held.{Byte, wholes_held}
use Rattle.steps.specs.Holding.{Holding}
use Rattle.trellis.specs.Keep.{Keep}

-- ---- metrics as the code holds them

-- −2^30, where a state that is not reached starts
abbrev pub mark : ℤ
mark = negsuc 1073741823

-- the decoder: by whole sums, of readings from −127 to 127
abbrev pub exactly_held : Holding ℤ
exactly_held = record { pair = wholes_held; on = whole; first = total (pos 0); Asked = Byte }

-- ---- all steps

-- the readings that so many steps use: each from −127 to 127
abbrev pub UsedBytes : (p : Keep) (steps : ℕ) (readings : List ℤ) → Type 0
UsedBytes p steps readings = any.UsedEach Byte (pos 0) p steps readings
