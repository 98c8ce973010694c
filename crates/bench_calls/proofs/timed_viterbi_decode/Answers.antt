-- `bench_calls::timed_viterbi_decode`: the decoder's answer as a number. Assumes nothing.
use mathlib.Core.Path.{ap, ◌∙◌}
use Rattle.refusal.specs.Answer.{door_number}
use Rattle.bench_calls.proofs.timed_viterbi_decode.Goals as goal

pub returns : goal.returns
returns c =
    let decodes = c.viterbi_decode.ensures in
    record {
      answer = c.count_number.ensures ∙ ap door_number decodes.answer;
      output = decodes.output;
      scratch = decodes.scratch;
    }
