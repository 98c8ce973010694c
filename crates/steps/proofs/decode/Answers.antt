-- `steps::decode`: all steps, then the way back over what they leave. Assumes nothing.
use native.Mathlib.Omega.{arith}
use Rattle.correlation.proofs.Rows.{decodable_runnable, some_states, way_walkable, way_finds}
use Rattle.steps.proofs.decode.Goals as goal

pub forward-score-requires : goal.forward-score-requires
forward-score-requires g c =
    record { shaped = decodable_runnable c.requires.shaped; used = c.requires.used }

pub trace-requires : goal.trace-requires
trace-requires g c =
    way_walkable c.requires.shaped c.forward-score.ensures.ran (omega (arith, some_states c.requires.shaped.shape))

pub returns : goal.returns
returns g c =
    record {
      found = way_finds c.requires.shaped c.forward-score.ensures.ran c.trace.ensures;
      near = c.forward-score.ensures.near;
    }
