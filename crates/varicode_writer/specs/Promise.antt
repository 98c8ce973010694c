-- What the entries promise: the answer and the whole record after the call. Definitions only.
use Rattle.std.specs.Prelude.{◌≡◌}
use Rattle.queue.specs.Records.{taken_said}
use Rattle.queue.specs.Ring.{bit_room}
use Rattle.queue.specs.Take.{taken}
use Rattle.refusal.specs.Answer.{answer_said}
use Rattle.varicode_writer.specs.declared.VaricodeEncoder.{VaricodeEncoder}
use Rattle.varicode_writer.specs.Writer.{Call, put_said, put_leaves, next_leaves}
use Rattle.varicode_writer.specs.Records.{writer, Wrote, NextBit}

-- `push_preamble`, `push_byte`, `push_postamble`: a call that puts bits
pub record Puts (e : VaricodeEncoder) (c : Call) (r : Wrote) : Type 0 where
  pub answer : answer_said r.answer ≡ put_said (writer e) c
  pub state : writer r.coder ≡ put_leaves (writer e) c

-- `next_bit`
pub record GivesBit (e : VaricodeEncoder) (r : NextBit) : Type 0 where
  pub answer : taken_said r.answer ≡ taken bit_room (writer e).pending
  pub state : writer r.coder ≡ next_leaves (writer e)
