-- `streaming::feed_lent`: refused for re, for im; nothing yet, or a bit. Assumes nothing.
use mathlib.Core.Path.{sym, ◌∙◌}
use native.Mathlib.Omega.{arith}
use Rattle.streaming.proofs.OneSymbol.{refused_re, refused_im, nothing_yet, bit_emitted}
use Rattle.streaming.proofs.feed_lent.Goals as goal

pub returns-then-not-re_good : goal.returns-then-not-re_good
returns-then-not-re_good c =
    refused_re c.refused.ensures (sym c.within-re_good.ensures ∙ c.if-not-re_good.true)

pub returns-then-not-im_good : goal.returns-then-not-im_good
returns-then-not-im_good c =
    refused_im c.refused-then-not-im_good.ensures (sym c.within-re_good.ensures ∙ c.if-not-re_good.false)
    (sym c.within-im_good.ensures ∙ c.if-not-im_good.true)

pub returns-then-next-lt-FULL : goal.returns-then-next-lt-FULL
returns-then-next-lt-FULL c =
    nothing_yet (sym c.within-re_good.ensures ∙ c.if-not-re_good.false)
    (sym c.within-im_good.ensures ∙ c.if-not-im_good.false) c.advance-next.ensures (omega arith)

pub returns : goal.returns
returns c =
    bit_emitted (sym c.within-re_good.ensures ∙ c.if-not-re_good.false)
    (sym c.within-im_good.ensures ∙ c.if-not-im_good.false) c.advance-next.ensures (omega arith)
    c.bit_behind-bit.ensures
