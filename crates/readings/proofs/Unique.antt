-- Of each entry, any two outcomes that its contract allows are equal. `Post` is the contract as the prover reads it: of what
-- the call is given, what it returns, and what it leaves in each argument. Assumes nothing.
use Rattle.refusal.specs.Answer.{Says}
use Rattle.refusal.proofs.Told.{says_tell}
use Rattle.refusal.proofs.Determined.{OnceBoth, both_once}
use Rattle.readings.proofs.viterbi_decode_soft_with.Reads as viterbi_decode_soft_with
use Rattle.readings.proofs.viterbi_decode_bytes.Reads as viterbi_decode_bytes

pub decodes_once :
    (κs code readings info rate out scratch : _) →
    OnceBoth (λ r left work.
    viterbi_decode_soft_with.Post κs (code, (readings, (info, (rate, (out, (scratch, tt)))))) r
    (code, (readings, (info, (rate, (left, (work, tt)))))))
decodes_once κs code readings info rate out scratch = both_once Says says_tell _ _ _ _ _

pub decodes_bytes_once :
    (κs code bytes info rate out scratch : _) →
    OnceBoth (λ r left work.
    viterbi_decode_bytes.Post κs (code, (bytes, (info, (rate, (out, (scratch, tt)))))) r
    (code, (bytes, (info, (rate, (left, (work, tt)))))))
decodes_bytes_once κs code bytes info rate out scratch = both_once Says says_tell _ _ _ _ _
