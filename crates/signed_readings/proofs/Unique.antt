-- Of the entry, any two outcomes that its contract allows are equal. `Post` is the contract as the prover reads it: of what
-- the call is given, what it returns, and what it leaves in each argument. Assumes nothing.
use Rattle.refusal.proofs.Determined.{OnceBoth, both_once}
use Rattle.refusal.specs.Answer.{Says}
use Rattle.refusal.proofs.Told.{says_tell}
use Rattle.signed_readings.proofs.viterbi_decode_signed_with.Reads as viterbi_decode_signed_with

pub decodes_signed_once :
    (κs code readings info rate out scratch : _) →
    OnceBoth (λ r left work.
    viterbi_decode_signed_with.Post κs (code, (readings, (info, (rate, (out, (scratch, tt)))))) r
    (code, (readings, (info, (rate, (left, (work, tt)))))))
decodes_signed_once κs code readings info rate out scratch = both_once Says says_tell _ _ _ _ _
