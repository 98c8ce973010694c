-- `radio::relay_decode_signed`: the decoder's answer as a number. Assumes nothing.
use mathlib.Core.Path.{ap, ◌∙◌}
use lib.IntN.{ℤ}
use Rattle.signed_answers.specs.Answer.{score_bits}
use Rattle.refusal.specs.Answer.{Said, door_number}
use Rattle.radio.proofs.relay_decode_signed.Goals as goal

pub returns : goal.returns
returns c =
    let decodes = c.viterbi_decode_signed_with.ensures in
    record {
      answer = c.word_number.ensures ∙ ap (λ (s : Said ℤ). door_number (score_bits s)) decodes.answer;
      output = decodes.output;
      scratch = decodes.scratch;
    }
