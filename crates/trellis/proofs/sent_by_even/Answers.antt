-- `trellis::sent_by_even`: the laws of a turn at what is known there. Assumes nothing.
use Rattle.trellis.proofs.Even.{filling_starts}
use Rattle.trellis.proofs.sent_by_even.Goals as goal

pub loop-n-init : goal.loop-n-init
loop-n-init c = filling_starts c.requires
