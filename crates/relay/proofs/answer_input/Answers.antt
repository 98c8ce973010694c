-- `relay::answer_input`: the line is the whole output for the input. Assumes nothing.
use Rattle.std.proofs.Common.{rules, ◌∙◌}
use Rattle.relay.proofs.Whole.{whole_input, whole_output}
use Rattle.relay.proofs.answer_input.Goals as goal

pub returns : goal.returns
returns g c =
    whole_output _ _ _ _ _ _ (c.written.ensures.text ∙ c.answer-answer.ensures)
    (whole_input _ _ c.read_full.new.space c.in_ok-n.n (search rules) (search rules) c.in_ok-n.ensures.bytes c.in_ok-n.ensures.end)
    c.write_all.ensures.bytes
