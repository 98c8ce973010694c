-- `f32s::from_all_bytes`: the laws of a turn at what is known there. Assumes nothing.
use Rattle.f32s.proofs.AllBytes.{copied_goes_on, copied_ends}
use Rattle.f32s.proofs.from_all_bytes.Goals as goal

pub loop-i-preserved : goal.loop-i-preserved
loop-i-preserved c =
    copied_goes_on c.loop-i.invariant c.as_chunks.ensures.front c.min-count.ensures c.loop-i-test.true c.from_bytes.ensures

pub returns : goal.returns
returns c = copied_ends c.loop-i.invariant c.as_chunks.ensures.front c.min-count.ensures c.loop-i-test.false
