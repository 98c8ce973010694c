-- What the entries promise: the answer and the whole record after the call. Definitions only.
use Rattle.std.specs.Prelude.{◌≡◌, ℕ}
use Rattle.queue.specs.Records.{taken_said}
use Rattle.queue.specs.Ring.{char_room}
use Rattle.queue.specs.Take.{taken}
use Rattle.refusal.specs.Answer.{answer_said}
use Rattle.varicode_reader.specs.declared.VaricodeDecoder.{VaricodeDecoder}
use Rattle.varicode_reader.specs.Reader.{bit_said, bit_leaves, char_leaves}
use Rattle.varicode_reader.specs.Records.{reader, Pushed, NextChar}

-- `push_bit`
pub record Pushes (d : VaricodeDecoder) (b : ℕ) (r : Pushed) : Type 0 where
  pub answer : answer_said r.answer ≡ bit_said (reader d) b
  pub state : reader r.coder ≡ bit_leaves (reader d) b

-- `pop_char`
pub record GivesChar (d : VaricodeDecoder) (r : NextChar) : Type 0 where
  pub answer : taken_said r.answer ≡ taken char_room (reader d).chars
  pub state : reader r.coder ≡ char_leaves (reader d)
