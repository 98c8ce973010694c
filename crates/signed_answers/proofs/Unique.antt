-- Of each function, any two outcomes that its contract allows are equal. `Post` is the contract as the prover reads it: of
-- what the call is given, what it returns, and what it leaves in each argument. Assumes nothing.
use mathlib.Core.Path.{sym, ◌∙◌}
use Prim.Native.Nat.{ℕ}
use Rattle.refusal.proofs.Determined.{Once}
use Rattle.signed_answers.proofs.word_number.Reads as word_number

pub word_number-once : (κs answer : _) → Once (λ (r : ℕ). word_number.Post κs (answer, tt) r (answer, tt))
word_number-once κs answer r r' p q = p ∙ sym q
