-- Of each entry, and of each part that other crates may call, any two outcomes that its contract allows are equal. `Post` is the
-- contract as the prover reads it: of what the call is given, what it returns, and what it leaves in each argument. Assumes
-- nothing.
use mathlib.Core.Path.{refl, sym, ◌∙◌}
use Prim.Native.Nat.{ℕ}
use Rattle.refusal.specs.Answer.{Says}
use Rattle.refusal.proofs.Determined.{Once, OnceLeft, OnceBoth, both_once}
use Rattle.refusal.proofs.Told.{says_tell}
use Rattle.symbols.proofs.viterbi_decode.Reads as viterbi_decode
use Rattle.symbols.proofs.viterbi_decode_hard.Reads as viterbi_decode_hard
use Rattle.symbols.proofs.forward_pass.step.Reads as step
use Rattle.symbols.proofs.forward_pass.first_least.Reads as first_least
use Rattle.symbols.proofs.forward_pass.forward.Reads as forward

pub decodes_symbols_once :
    (κs soft out scratch : _) →
    OnceBoth (λ r left work. viterbi_decode.Post κs (soft, (out, (scratch, tt))) r (soft, (left, (work, tt))))
decodes_symbols_once κs soft out scratch = both_once Says says_tell _ _ _ _ _

pub decodes_hard_once :
    (κs bits out scratch : _) →
    OnceBoth (λ r left work. viterbi_decode_hard.Post κs (bits, (out, (scratch, tt))) r (bits, (left, (work, tt))))
decodes_hard_once κs bits out scratch = both_once Says says_tell _ _ _ _ _

-- ---- parts

pub selects_once :
    (κs code sent symbol pm next row : _) →
    OnceBoth (λ r next' row'.
    step.Post κs (code, (sent, (symbol, (pm, (next, (row, tt)))))) r (code, (sent, (symbol, (pm, (next', (row', tt)))))))
selects_once κs code sent symbol pm next row r r' n n' w w' p q = (refl, p.mets ∙ sym q.mets, p.froms ∙ sym q.froms)

pub first_least-once : (κs pm : _) → Once (λ (r : ℕ). first_least.Post κs (pm, tt) r (pm, tt))
first_least-once κs pm r r' p q = p ∙ sym q

pub runs_once :
    (κs code symbols count rows : _) →
    OnceLeft (λ r left.
    forward.Post κs (code, (symbols, (count, (rows, tt)))) r (code, (symbols, (count, (left, tt)))))
runs_once κs code symbols count rows r r' left left' p q = (p.last ∙ sym q.last, p.survivors ∙ sym q.survivors)
