-- `doors::relay_conv_encode`: the encoder's answer as a number. Assumes nothing.
use mathlib.Core.Path.{ap, ◌∙◌}
use Rattle.refusal.specs.Answer.{door_number}
use Rattle.doors.proofs.relay_conv_encode.Goals as goal

pub returns : goal.returns
returns c =
    let encodes = c.conv_encode.ensures in
    record { answer = c.count_number.ensures ∙ ap door_number encodes.answer; output = encodes.output }
