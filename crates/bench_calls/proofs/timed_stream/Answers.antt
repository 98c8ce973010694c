-- `bench_calls::timed_stream`: the stream's answer as a number. Assumes nothing.
use mathlib.Core.Path.{ap, ◌∙◌}
use Rattle.refusal.specs.Answer.{door_number}
use Rattle.bench_calls.proofs.timed_stream.Goals as goal

pub returns : goal.returns
returns c =
    let streams = c.stream.ensures in
    record { answer = c.count_number.ensures ∙ ap door_number streams.answer; output = streams.output }
