-- Of the door, any two outcomes that its contract allows are equal. `Post` is the contract as the prover reads it: of what
-- the call is given, what it returns, and what it leaves in each argument. Assumes nothing.
use Rattle.refusal.proofs.Determined.{OnceBoth, both_once}
use Rattle.signed_answers.specs.Answer.{ScoreNumbers}
use Rattle.signed_answers.proofs.Told.{score_numbers_tell}
use Rattle.radio.proofs.relay_decode_signed.Reads as relay_decode_signed

pub relay_decode_signed-once :
    (κs code rate info readings out scratch : _) →
    OnceBoth (λ r left work.
    relay_decode_signed.Post κs (code, (rate, (info, (readings, (out, (scratch, tt)))))) r
    (code, (rate, (info, (readings, (left, (work, tt)))))))
relay_decode_signed-once κs code rate info readings out scratch = both_once ScoreNumbers score_numbers_tell _ _ _ _ _
