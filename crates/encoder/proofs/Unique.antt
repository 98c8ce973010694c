-- Of each entry, any two outcomes that its contract allows are equal. `Post` is the contract as the prover reads it: of what
-- the call is given, what it returns, and what it leaves in each argument. Assumes nothing.
use Prim.Native.Nat.{ℕ}
use Rattle.std.specs.Prelude.{Result}
use Rattle.refusal.specs.declared.Refusal.{Refusal}
use Rattle.refusal.specs.Answer.{Says}
use Rattle.refusal.proofs.Determined.{Once, OnceLeft, writes_once}
use Rattle.refusal.proofs.Told.{says_tell}
use Rattle.encoder.proofs.refused_choice.Reads as refused_choice
use Rattle.encoder.proofs.punctured_coded_len_with.Reads as punctured_coded_len_with
use Rattle.encoder.proofs.conv_encode_punctured_with.Reads as conv_encode_punctured_with
use Rattle.encoder.proofs.conv_encode.Reads as conv_encode

pub decides_once :
    (κs code rate info limit : _) →
    Once (λ (r : Result (Unit {0}) Refusal).
    refused_choice.Post κs (code, (rate, (info, (limit, tt)))) r (code, (rate, (info, (limit, tt)))))
decides_once κs code rate info limit r r' p q = says_tell _ r r' p.decided q.decided

pub measures_once :
    (κs code info rate : _) →
    Once (λ (r : Result ℕ Refusal). punctured_coded_len_with.Post κs (code, (info, (rate, tt))) r (code, (info, (rate, tt))))
measures_once κs code info rate = says_tell _

pub encodes_once :
    (κs code info rate out : _) →
    OnceLeft (λ r left. conv_encode_punctured_with.Post κs (code, (info, (rate, (out, tt)))) r (code, (info, (rate, (left, tt)))))
encodes_once κs code info rate out = writes_once Says says_tell _ _ _

pub encodes_plain_once :
    (κs bits out : _) → OnceLeft (λ r left. conv_encode.Post κs (bits, (out, tt)) r (bits, (left, tt)))
encodes_plain_once κs bits out = writes_once Says says_tell _ _ _
