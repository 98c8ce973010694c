-- `f32s::Readings::len`: the f32s of both places. Assumes nothing.
use mathlib.Core.Path.{sym}
use Rattle.f32s.proofs.AllBytes.{length-values}
use Rattle.f32s.proofs.Readings.len.Goals as goal

pub returns : goal.returns
returns c = sym (length-values c.args.self.floats.now c.args.self.bytes.now)
