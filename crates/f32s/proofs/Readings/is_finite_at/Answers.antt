-- `f32s::Readings::is_finite_at`: a value among the bytes. Assumes nothing.
use mathlib.Core.Path.{ap, ◌∙◌}
use native.Mathlib.Omega.{arith}
use Rattle.f32s.specs.Single.{zero32, finite}
use Rattle.f32s.proofs.AllBytes.{value_behind}
use Rattle.f32s.proofs.Readings.is_finite_at.Goals as goal

pub returns-else-i-self : goal.returns-else-i-self
returns-else-i-self c =
    c.are_finite.ensures
    ∙ ap finite
    (value_behind c.args.self.floats.now c.args.self.bytes.now c.args.i zero32 c.as_chunks.ensures.front c.if-i-self.false
    (omega (arith, c.requires)))
