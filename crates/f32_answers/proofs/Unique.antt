-- Of each function, any two outcomes that its contract allows are equal. `Post` is the contract as the prover reads it: of
-- what the call is given, what it returns, and what it leaves in each argument. Assumes nothing.
use mathlib.Core.Path.{sym, ◌∙◌}
use Prim.Native.Nat.{ℕ}
use Rattle.std.specs.Prelude.{Option}
use Rattle.refusal.proofs.Determined.{Once}
use Rattle.f32_answers.proofs.word_number.Reads as word_number
use Rattle.f32_answers.proofs.first_bad.Reads as first_bad
use Rattle.f32_answers.proofs.first_beyond.Reads as first_beyond

pub word_number-once : (κs answer : _) → Once (λ (r : ℕ). word_number.Post κs (answer, tt) r (answer, tt))
word_number-once κs answer r r' p q = p ∙ sym q

pub first_bad-once :
    (κs readings used : _) → Once (λ (r : Option ℕ). first_bad.Post κs (readings, (used, tt)) r (readings, (used, tt)))
first_bad-once κs readings used r r' p q = p ∙ sym q

pub first_beyond-once : (κs components : _) → Once (λ (r : Option ℕ). first_beyond.Post κs (components, tt) r (components, tt))
first_beyond-once κs components r r' p q = p ∙ sym q
