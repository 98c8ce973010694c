-- Of each function, any two outcomes that its contract allows are equal. `Post` is the contract as the prover reads it: of
-- what the call is given, what it returns, and what it leaves in each argument. Assumes nothing.
use mathlib.Core.Path.{sym, ◌∙◌}
use Prim.Native.Nat.{ℕ}
use denote.RattleType.{RattleType}
use Rattle.std.specs.Prelude.{Result}
use Rattle.refusal.specs.declared.Answered.{Answered}
use Rattle.refusal.specs.declared.Refusal.{Refusal}
use Rattle.refusal.proofs.Determined.{Once}
use Rattle.refusal.proofs.Told.{answered_told, numbers_tell}
use Rattle.refusal.proofs.Refusal.number.Reads as number
use Rattle.refusal.proofs.Refusal.place.Reads as place
use Rattle.refusal.proofs.refused_number.Reads as refused_number
use Rattle.refusal.proofs.answer_number.Reads as answer_number
use Rattle.refusal.proofs.count_number.Reads as count_number
use Rattle.refusal.proofs.Answered+Result+A+Refusal+C.refused.Reads as refused

pub number_once : (κs refusal : _) → Once (λ (r : ℕ). number.Post κs (refusal, tt) r (refusal, tt))
number_once κs refusal r r' p q = p ∙ sym q

pub place_once : (κs refusal : _) → Once (λ (r : ℕ). place.Post κs (refusal, tt) r (refusal, tt))
place_once κs refusal r r' p q = p ∙ sym q

pub refused_number-once : (κs refusal : _) → Once (λ (r : ℕ). refused_number.Post κs (refusal, tt) r (refusal, tt))
refused_number-once κs refusal = numbers_tell _

pub answer_number-once : (κs answer : _) → Once (λ (r : ℕ). answer_number.Post κs (answer, tt) r (answer, tt))
answer_number-once κs answer = numbers_tell _

pub count_number-once : (κs answer : _) → Once (λ (r : ℕ). count_number.Post κs (answer, tt) r (answer, tt))
count_number-once κs answer = numbers_tell _

pub refused_once :
    (A C : RattleType) (LA LC κs given left : _) →
    Once (λ (r : Answered (Result A.Denot Refusal) C.Denot). refused.Post A C LA LC κs given r left)
refused_once A C LA LC κs given left r r' p q = answered_told r r' (p.answer ∙ sym q.answer) (p.state ∙ sym q.state)
