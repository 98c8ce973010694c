-- `doors::relay_decode`: the decoder's answer as a number. Assumes nothing.
use mathlib.Core.Path.{ap, ◌∙◌}
use lib.Ieee.{Float}
use Rattle.f32_answers.specs.Answer.{score_bits}
use Rattle.refusal.specs.Answer.{Said, door_number}
use Rattle.doors.proofs.relay_decode.Goals as goal

pub returns : goal.returns
returns c =
    let decodes = c.viterbi_decode_bytes.ensures in
    record {
      answer = c.word_number.ensures ∙ ap (λ (s : Said Float). door_number (score_bits s)) decodes.answer;
      output = decodes.output;
      scratch = decodes.scratch;
    }
