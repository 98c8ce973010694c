-- Of each door, any two outcomes that its contract allows are equal. `Post` is the contract as the prover reads it: of what
-- the call is given, what it returns, and what it leaves in each argument. Assumes nothing.
use Prim.Native.Nat.{ℕ}
use Rattle.f32_answers.specs.Answer.{ScoreNumbers}
use Rattle.f32_answers.proofs.Told.{score_numbers_tell}
use Rattle.refusal.specs.Answer.{Numbers}
use Rattle.refusal.proofs.Determined.{Once, OnceLeft, OnceBoth, writes_once, both_once}
use Rattle.refusal.proofs.Told.{numbers_tell}
use Rattle.doors.proofs.relay_conv_encode.Reads as relay_conv_encode
use Rattle.doors.proofs.relay_encode.Reads as relay_encode
use Rattle.doors.proofs.relay_coded_len.Reads as relay_coded_len
use Rattle.doors.proofs.relay_decode.Reads as relay_decode

pub relay_conv_encode-once :
    (κs bits out : _) → OnceLeft (λ r left. relay_conv_encode.Post κs (bits, (out, tt)) r (bits, (left, tt)))
relay_conv_encode-once κs bits out = writes_once Numbers numbers_tell _ _ _

pub relay_encode-once :
    (κs code rate info out : _) →
    OnceLeft (λ r left. relay_encode.Post κs (code, (rate, (info, (out, tt)))) r (code, (rate, (info, (left, tt)))))
relay_encode-once κs code rate info out = writes_once Numbers numbers_tell _ _ _

pub relay_coded_len-once :
    (κs code rate info : _) → Once (λ (r : ℕ). relay_coded_len.Post κs (code, (rate, (info, tt))) r (code, (rate, (info, tt))))
relay_coded_len-once κs code rate info = numbers_tell _

pub relay_decode-once :
    (κs code rate info readings out scratch : _) →
    OnceBoth (λ r left work.
    relay_decode.Post κs (code, (rate, (info, (readings, (out, (scratch, tt)))))) r
    (code, (rate, (info, (readings, (left, (work, tt)))))))
relay_decode-once κs code rate info readings out scratch = both_once ScoreNumbers score_numbers_tell _ _ _ _ _
