-- `relay::read_full`: a read brings bytes behind those that stand there. Assumes nothing.
use Rattle.std.proofs.Common.{rules}
use Rattle.relay.proofs.Reading.{read_more}
use Rattle.relay.proofs.read_full.Goals as goal

pub loop-done-preserved : goal.loop-done-preserved
loop-done-preserved g c =
    let so_far = c.loop-done.invariant in
    let read = c.in_ok-n.ensures in
    record {
      within = search rules;
      bytes = read_more _ _ _ _ _ _ _ _ so_far.within read.bound.0 so_far.bytes read.bytes.0;
    }
