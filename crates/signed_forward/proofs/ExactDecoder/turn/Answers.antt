-- `signed_forward::Exact::turn`: what `signed_butterflies::turn` says. Assumes nothing.
use Rattle.signed_butterflies.proofs.Words.{back}
use Rattle.signed_forward.proofs.ExactDecoder.turn.Goals as goal

pub returns : goal.returns
returns c =
    let fit = c.ranges in
    rw (back _ fit.m0, back _ fit.m1, back _ fit.a, back _ fit.b) at c.turn.ensures
