-- `f32s::Readings::finite_at`: a value among the bytes, and one that is missing. Assumes nothing.
use mathlib.Core.Path.{ap, ◌∙◌}
use native.Mathlib.Omega.{arith}
use Rattle.f32s.specs.Single.{zero32, finite}
use Rattle.f32s.proofs.AllBytes.{value_behind, value_missing}
use Rattle.f32s.proofs.Patterns.{finite_number}
use Rattle.f32s.proofs.Readings.finite_at.Goals as goal

pub from_le_bytes-requires : goal.from_le_bytes-requires
from_le_bytes-requires c =
    finite_number _
    (ap finite
    (value_behind c.args.self.floats.now c.args.self.bytes.now c.args.i zero32 c.as_chunks.ensures.front c.if-i-self.false
    (omega (arith, c.if-behind-fours.true, c.as_chunks.ensures.front_len)))
    ∙ c.requires)

pub returns-then-behind-fours : goal.returns-then-behind-fours
returns-then-behind-fours c =
    c.from_le_bytes.ensures
    ∙ value_behind c.args.self.floats.now c.args.self.bytes.now c.args.i zero32 c.as_chunks.ensures.front c.if-i-self.false
    (omega (arith, c.if-behind-fours.true, c.as_chunks.ensures.front_len))

pub returns-else-behind-fours : goal.returns-else-behind-fours
returns-else-behind-fours c = value_missing c.args.self.floats.now c.args.self.bytes.now c.args.i zero32 (omega arith)
