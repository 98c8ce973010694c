-- `readings::viterbi_decode_bytes`: the readings are all in the bytes. Assumes nothing.
use Rattle.readings.proofs.viterbi_decode_bytes.Goals as goal

pub returns : goal.returns
returns c =
    c.decode_readings.ensures
