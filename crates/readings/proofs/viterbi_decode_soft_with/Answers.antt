-- `readings::viterbi_decode_soft_with`: the readings are all at hand as f32s. Assumes nothing.
use mathlib.Core.List.{append-nil}
use Rattle.f32s.specs.Single.{all_of_bytes}
use Rattle.readings.proofs.viterbi_decode_soft_with.Goals as goal

pub returns : goal.returns
unfolding all_of_bytes
returns c =
    rw (append-nil c.args.readings.now) at c.decode_readings.ensures
