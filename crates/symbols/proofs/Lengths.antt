-- The count in an accepted answer is how many bits are written, and scratch has a row of survivors for each of them. Assumes
-- nothing.
use mathlib.Core.List.{List}
use mathlib.Core.Path.{◌≡◌, ◌∙◌}
use Prim.Native.Nat.{ℕ, ◌*◌, ◌^◌, ◌<◌}
use lib.Dec.{ltb}
use lib.Ieee.{Float}
use lib.ListN.{length, take}
use Rattle.best_path.proofs.Rows.{length-rows, length-traced}
use Rattle.butterflies.specs.Smallest.{smallest}
use Rattle.f32s.specs.Single.{within}
use Rattle.refusal.specs.Answer.{Said, accepted}
use Rattle.refusal.specs.Limits.{most}
use Rattle.refusal.specs.Numbers.{too_many, short_output, short_scratch, bad_component}
use Rattle.refusal.proofs.FirstBad.{accepted_past_bad}
use Rattle.refusal.proofs.Told.{accepted_past, accepted_told}
use Rattle.trellis.specs.declared.ConvCode.{ConvCode}
use Rattle.trellis.specs.Choice.{k5}
use Rattle.symbols.specs.Decode.{first_least, mets, froms, word, filled_rows}
use Rattle.symbols.specs.Said.{room_for, symbols_in, soft_said, hard_said, phasors_of}
use Rattle.symbols.proofs.Steps.{rows_filled}

pub length-word : (code : ConvCode) (soft : List Float) (count : ℕ) → length (word code soft count) ≡ count
unfolding word
length-word code soft count =
    length-traced smallest code (froms code soft) count (first_least (mets code soft count) (2 ^ code.width))

pub length-survivors :
    (code : ConvCode) → 0 < code.width → (soft : List Float) (count : ℕ) →
    length (filled_rows code soft count) ≡ count * 2 ^ code.width
length-survivors code some soft = length-rows (rows_filled code some soft)

-- what was accepted had room
pub room_past :
    {A : Type 0} (count room scratch : ℕ) (rest : Said A) (a : A) → room_for count room scratch rest ≡ accepted a →
    rest ≡ accepted a
room_past count room scratch rest a e =
    accepted_past (ltb scratch (count * 2 ^ k5.width)) short_scratch rest a
    (accepted_past (ltb room count) short_output _ a (accepted_past (ltb most count) too_many _ a e))

-- `viterbi_decode`
pub soft_count :
    (soft : List Float) (room scratch n : ℕ) → soft_said soft room scratch ≡ accepted n →
    length (word k5 soft (symbols_in soft)) ≡ n
unfolding soft_said
soft_count soft room scratch n e =
    let fits = room_past (symbols_in soft) room scratch _ n e in
    length-word k5 soft (symbols_in soft)
    ∙ accepted_told _ n (accepted_past_bad within bad_component (take (2 * symbols_in soft) soft) _ n fits)

-- `viterbi_decode_hard`
pub hard_count :
    (bits : List ℕ) (room scratch n : ℕ) → hard_said bits room scratch ≡ accepted n →
    length (word k5 (phasors_of bits) (symbols_in bits)) ≡ n
unfolding hard_said
hard_count bits room scratch n e =
    length-word k5 (phasors_of bits) (symbols_in bits) ∙ accepted_told _ n (room_past (symbols_in bits) room scratch _ n e)
