-- The value of a place, of f32s that lie in two places: one that is kept. Assumes nothing.
use mathlib.Core.Path.{◌∙◌}
use Rattle.f32s.specs.Readings.{values_of}
use Rattle.f32s.specs.Single.{zero32}
use Rattle.trellis.proofs.Places.{reads_kept}
use Rattle.forward.proofs.ReadingsReadingsSoft.value_at.Goals as goal

pub returns-then-column-eq1 : goal.returns-then-column-eq1
returns-then-column-eq1 c =
    c.finite_at.ensures ∙ reads_kept zero32 c.args.column (values_of c.args.self.now) c.args.at c.if-column-eq1.true
