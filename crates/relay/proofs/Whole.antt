-- What is written is the whole output for an input, of which the room takes as many bytes as count. Assumes nothing.
use Rattle.std.proofs.Common.{◌≡◌, ℕ, ◌+◌, ◌≤◌, ◌<◌, inl, inr, Option, None, Some, IfSome, Result, Ok, Err, OnOk, List, [], ◌++◌}
use Rattle.std.proofs.Common.{length, take, sym, ap, ◌∙◌, subst, append-nil, arith, eq-or-lt_of_le}
use Rattle.std.proofs.Common.{length-take-le, take_all, take_at}
use Rattle.std.specs.Io.KnownBytes.{Appends, Consumes, IsAtEnd}
use Rattle.line.specs.Line.{most_bytes, output}
use Rattle.line.proofs.Cut.{output_of_first_bytes}

-- ---- what the room takes of an input

-- a front that fills the room, or has no rest
room_of : (front rest : List ℕ) (room : ℕ) → length front ≤ room → (length front < room → rest ≡ []) → take room (front ++ rest) ≡ front
room_of front rest room fits ends =
    elim (eq-or-lt_of_le fits) [
      | inl full ↦ take_at front rest room full
      | inr short ↦
          ap (λ (l : List ℕ). take room (front ++ l)) (ends short)
          ∙ ap (take room) (append-nil front)
          ∙ take_all room front fits
    ]

-- what was read, to a full room or to the input's end, has the output of the whole input
pub whole_input :
    (before after : Option (List ℕ)) (space : List ℕ) (n : ℕ) → length space ≡ most_bytes + 1 → n ≤ length space →
    Consumes before after (take n space) → (n < length space → IsAtEnd after) →
    IfSome before (λ input. output (take n space) ≡ output input)
whole_input None after space n size fits read ends = tt
whole_input (Some input) None space n size fits read ends = absurd read
whole_input (Some input) (Some rest) space n size fits read ends =
    let long = length-take-le n space fits in
    let front = take n space in
    let room = room_of front rest (most_bytes + 1) (omega arith) (λ short. ends (omega arith)) in
    ap output (sym room ∙ ap (λ (l : List ℕ). take (most_bytes + 1) l) (sym read)) ∙ output_of_first_bytes input

-- ---- what is written

pub whole_output :
    {E : Type 0} (r : Result Unit E) (before old new : Option (List ℕ)) (bytes text : List ℕ) → bytes ≡ text →
    IfSome before (λ input. text ≡ output input) → OnOk r (Appends old new bytes) →
    OnOk r (IfSome before (λ input. Appends old new (output input)))
whole_output (Ok done) None old new bytes text e whole written = tt
whole_output (Ok done) (Some input) old new bytes text e whole written = subst (Appends old new) (e ∙ whole) written
whole_output (Err failed) before old new bytes text e whole written = tt
