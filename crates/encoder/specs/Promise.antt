-- What the entries promise, and their doors: each contract is one of these. `Answers` is how the caller reads the
-- answer (`Says r` of an entry, `Numbers r` of a door), `out` the lent buffer. Definitions only.
use Rattle.std.specs.Prelude.{List, ◌≡◌, ℕ, length, Result}
use Rattle.refusal.specs.declared.Refusal.{Refusal}
use Rattle.refusal.specs.Answer.{Said, done, answer_said}
use Rattle.refusal.specs.Lent.{Lent, Writes}
use Rattle.encoder.specs.Encode.{checked_to, length_said, encode_said, encode_word, plain_said, plain_word}

-- `refused_choice`: the refusal that a code, a rate and an info count earn, or that they pass
pub record Decides (limit code rate count : ℕ) (r : Result (Unit {0}) Refusal) : Type 0 where
  pub decided : answer_said r ≡ checked_to limit code rate count done

-- `punctured_coded_len_with`: how many coded bits an info count gives
abbrev pub Measures : (Said ℕ → Type 0) → (code rate info : ℕ) → Type 0
Measures Answers code rate info = Answers (length_said code rate info)

-- `conv_encode_punctured_with`: the zero-tailed, punctured codeword of the info bits
abbrev pub Encodes : (Said ℕ → Type 0) → (code rate : ℕ) → (info : List ℕ) → (out : Lent ℕ) → Type 0
Encodes Answers code rate info out =
    Writes Answers (encode_said code rate (length info) (length out.given)) (encode_word code rate info) out

-- `conv_encode`: the coded bits of K5 at rate 1/2, with no tail
abbrev pub EncodesPlain : (Said ℕ → Type 0) → (bits : List ℕ) → (out : Lent ℕ) → Type 0
EncodesPlain Answers bits out =
    Writes Answers (plain_said (length bits) (length out.given)) (plain_word bits) out
