-- `doors::relay_coded_len`: the coded length's answer as a number. Assumes nothing.
use mathlib.Core.Path.{ap, ◌∙◌}
use Rattle.refusal.specs.Answer.{door_number}
use Rattle.doors.proofs.relay_coded_len.Goals as goal

pub returns : goal.returns
returns c = c.count_number.ensures ∙ ap door_number c.punctured_coded_len_with.ensures
