-- Each door's number tells its answer: read as the host reads it (`door_read`), it is what the entry says. Assumes nothing.
use mathlib.Core.List.{List}
use mathlib.Core.Path.{◌≡◌}
use Prim.Native.Nat.{ℕ, ◌*◌, ◌^◌, ◌<◌}
use native.Mathlib.Omega.{arith}
use borrow.Author.Tests.{ltb-false}
use lib.Dec.{ltb}
use lib.Ieee.{Float, binary32, to_bits}
use Rattle.correlation.proofs.Crosses.{answered_crosses}
use Rattle.encoder.specs.Encode.{coded_length_of, roomed, length_said, encode_said, plain_said}
use Rattle.encoder.proofs.Crosses.{crosses_checked, length-below}
use Rattle.f32_answers.specs.Answer.{score_bits}
use Rattle.forward.proofs.Metrics.{score_below}
use Rattle.readings.specs.Said.{decode_said}
use Rattle.refusal.specs.Answer.{accepted, door_number, door_read}
use Rattle.refusal.specs.Limits.{most}
use Rattle.refusal.specs.Numbers.{too_many, short_output}
use Rattle.refusal.proofs.Doors.{Crosses, small, count_tells, value_tells, crosses_unless}
use Rattle.trellis.specs.Choice.{code_of, pattern_of}
use Rattle.trellis.proofs.Chosen.{code_narrow}

abbrev itself : ℕ → ℕ
itself n = n

crosses_roomed : (need room : ℕ) → need < 2 ^ 32 → Crosses itself (roomed need room)
crosses_roomed need room below = crosses_unless itself (ltb room need) short_output (accepted need) (omega arith) (λ _. small below)

pub plain_tells : (count room : ℕ) → door_read (door_number (plain_said count room)) ≡ plain_said count room
unfolding plain_said
plain_tells count room =
    count_tells _
    (crosses_unless itself (ltb most count) too_many _ (omega arith)
    (λ few. crosses_roomed (2 * count) room (omega (arith, ltb-false most count few))))

pub encode_tells :
    (code rate count room : ℕ) → door_read (door_number (encode_said code rate count room)) ≡ encode_said code rate count room
unfolding encode_said
encode_tells code rate count room =
    count_tells _
    (crosses_checked itself code rate count _
    (λ few. crosses_roomed (coded_length_of code rate count) room (length-below code rate count few)))

pub length-tells : (code rate count : ℕ) → door_read (door_number (length_said code rate count)) ≡ length_said code rate count
unfolding length_said
length-tells code rate count = count_tells _ (crosses_checked itself code rate count _ (λ few. small (length-below code rate count few)))

pub decode_tells :
    (code rate info : ℕ) (readings : List Float) (room scratch : ℕ) →
    door_read (door_number (score_bits (decode_said code rate info readings room scratch)))
    ≡ score_bits (decode_said code rate info readings room scratch)
decode_tells code rate info readings room scratch =
    value_tells (to_bits binary32) _
    (answered_crosses (to_bits binary32) _ _ code rate info readings room scratch _ (omega arith)
    (λ few. score_below (code_of code) (code_narrow code).some (pattern_of code rate) readings info))
