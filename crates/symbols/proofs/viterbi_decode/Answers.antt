-- `symbols::viterbi_decode`: the refusals in their order, then the decoding. Assumes nothing.
use mathlib.Core.Path.{refl}
use native.Mathlib.Omega.{arith}
use Rattle.refusal.proofs.Told.{handed_on}
use Rattle.refusal.proofs.Over.{both_refused}
use Rattle.symbols.proofs.Answers.{soft_refused, beyond, beyond_few, all_within, finds_decodes}
use Rattle.symbols.proofs.Components.{no_bits, soft_counted}
use Rattle.symbols.proofs.Room.{room_few, room_decodable}
use Rattle.symbols.proofs.viterbi_decode.Goals as goal

pub returns-in_err-refused_room : goal.returns-in_err-refused_room
returns-in_err-refused_room c =
    rw (handed_on c.from_residual.result _ c.from_residual.ensures)
    (both_refused (soft_refused _ _ _ _ c.in_err-refused_room.ensures) refl refl refl)

pub overflow_cast-result : goal.overflow_cast-result
overflow_cast-result c =
    omega (arith, beyond_few _ _ _ c.in_ok-refused_room.ensures c.in-Some.ensures)

pub returns-in-Some : goal.returns-in-Some
returns-in-Some c =
    both_refused (beyond _ _ _ c.in_ok-refused_room.ensures c.in-Some.ensures) refl refl refl

pub decode-requires : goal.decode-requires
decode-requires c =
    let is = c.in_ok-refused_room.ensures in
    room_decodable _ _ _ is (soft_counted _ (room_few _ _ _ is) (omega arith)) refl refl

pub returns-in-None : goal.returns-in-None
returns-in-None c =
    finds_decodes (all_within _ _ _ c.in_ok-refused_room.ensures c.in-None.ensures) (rw no_bits at c.decode.ensures)
