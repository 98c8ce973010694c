-- `symbols::viterbi_decode_hard`: the refusals in their order, then the decoding of the bits where they lie. Assumes nothing.
use mathlib.Core.Path.{refl}
use native.Mathlib.Omega.{arith}
use Rattle.refusal.proofs.Told.{handed_on}
use Rattle.refusal.proofs.Over.{both_refused}
use Rattle.symbols.proofs.Answers.{hard_refused, hard_accepted, finds_decodes}
use Rattle.symbols.proofs.Components.{hard_counted}
use Rattle.symbols.proofs.Room.{room_few, room_decodable}
use Rattle.symbols.proofs.viterbi_decode_hard.Goals as goal

pub returns-in_err-refused_room : goal.returns-in_err-refused_room
returns-in_err-refused_room c =
    rw (handed_on c.from_residual.result _ c.from_residual.ensures)
    (both_refused (hard_refused _ _ _ _ c.in_err-refused_room.ensures) refl refl refl)

pub decode-requires : goal.decode-requires
decode-requires c =
    let is = c.in_ok-refused_room.ensures in
    room_decodable _ _ _ is (hard_counted _ (room_few _ _ _ is) (omega arith)) refl refl

pub returns : goal.returns
returns c = finds_decodes (hard_accepted _ _ _ c.in_ok-refused_room.ensures) c.decode.ensures
