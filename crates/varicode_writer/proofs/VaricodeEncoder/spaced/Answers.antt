-- `varicode_writer::VaricodeEncoder::spaced`: what fits behind the gap has room there. Assumes nothing.
use native.Mathlib.Omega.{arith}
use Rattle.varicode_writer.specs.Records.{writer}
use Rattle.varicode_writer.proofs.Puts.{spaced_room}
use Rattle.varicode_writer.proofs.VaricodeEncoder.spaced.Goals as goal

pub returns : goal.returns
returns c =
    spaced_room (writer c.args.self) c.args.zeros c.args.n _ _ c.read-q.ensures (omega arith) c.put_run.ensures
