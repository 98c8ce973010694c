-- Any two outcomes that a contract allows are equal. `Post` is the contract: of what the call is given, what it returns, and
-- what it leaves in each argument. Assumes nothing.
use Rattle.std.proofs.Common.{◌≡◌, ℕ, List, sym, ◌∙◌}
use Rattle.line.proofs.answer.Reads as answer
use Rattle.line.proofs.room.Reads as room

module _ (κs : _) (given : _) (r r' : List ℕ) (left left' : _) where
  pub answer_determined : answer.Post κs given r left → answer.Post κs given r' left' → r ≡ r'
  answer_determined p q = p ∙ sym q

module _ (κs : _) (given : _) (r r' : List ℕ) (left left' : _) where
  pub room_determined : room.Post κs given r left → room.Post κs given r' left' → r ≡ r'
  room_determined p q = p ∙ sym q
