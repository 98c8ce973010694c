-- A door's answer with a score is fixed by what document 01 says of it. Assumes nothing.
use mathlib.Core.Path.{sym, ◌∙◌}
use Rattle.refusal.proofs.Determined.{Telling}
use Rattle.f32_answers.specs.Answer.{ScoreNumbers}

pub score_numbers_tell : Telling ScoreNumbers
score_numbers_tell said r r' p q = p ∙ sym q
