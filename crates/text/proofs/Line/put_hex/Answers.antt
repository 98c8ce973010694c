-- `text::Line::put_hex`: the laws of a turn at what is known there. Assumes nothing.
use Rattle.std.proofs.Common.{arith, rules}
use Rattle.text.proofs.Digits.{hex_starts, hex_room, hex_goes_on}
use Rattle.text.proofs.Line.put_hex.Goals as goal

pub loop-place-init : goal.loop-place-init
loop-place-init g c = hex_starts

pub put_byte-requires : goal.put_byte-requires
put_byte-requires g c = (search rules, hex_room c.loop-place.invariant c.loop-place-test.true c.requires)

pub loop-place-preserved : goal.loop-place-preserved
loop-place-preserved g c =
    hex_goes_on c.loop-place.invariant c.loop-place-test.true (omega arith) c.digit.ensures c.put_byte.ensures
