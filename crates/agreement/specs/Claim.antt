-- Demand 3 of the decoder of signed bytes: the best word wins, first among equals, and it stays. There is no premise on
-- the readings. Definitions only.
use Rattle.std.specs.Prelude.{List, ◌≡◌, ℕ, ℤ, take, Result}
use Rattle.best_word.specs.Claim.{Towards, score_of, Wins}
use Rattle.correlation.specs.Decode as any
use Rattle.correlation.specs.Whole.{exactly}
use Rattle.refusal.specs.declared.Refusal.{Refusal}
use Rattle.refusal.specs.Answer.{answer_said, accepted}
use Rattle.trellis.specs.declared.ConvCode.{ConvCode}
use Rattle.trellis.specs.Choice.{code_of, pattern_of}
use Rattle.trellis.specs.Codeword.{codeword}
use Rattle.trellis.specs.Keep.{Keep}

-- what is claimed of a word v and a score s that came of the readings zs
pub record SignedClaim (code : ConvCode) (p : Keep) (info : ℕ) (zs : List ℤ) (v : List ℕ) (s : ℤ) : Type 0 where
  pub best : Wins code p info zs v
  -- the score is that score
  pub scored : s ≡ score_of code p info v zs
  -- readings moved further towards the word leave it as it is
  pub stays : (moved : List ℤ) → Towards (codeword code p v) zs moved → any.word exactly code p moved info ≡ v

-- of a call that was accepted, by what it was given, what it returned and what it left in the output: the front of the
-- output is a word, and the answer a score, of which the claim holds
pub record ClaimOfSignedCall (code rate info : ℕ) (zs : List ℤ) (r : Result ℤ Refusal) (out : List ℕ) : Type 0 where
  pub accepts :
      (s : ℤ) → answer_said r ≡ accepted s → SignedClaim (code_of code) (pattern_of code rate) info zs (take info out) s
