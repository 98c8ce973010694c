-- The refusals of the entries in their order, and that what a decoding leaves is what they promise. Assumes nothing.
use mathlib.Core.List.{List}
use mathlib.Core.Path.{◌≡◌, refl, ◌∙◌}
use Prim.Native.Nat.{ℕ, ◌*◌, ◌<◌}
use native.Mathlib.Omega.{arith}
use lib.Dec.{lit<}
use lib.Ieee.{Float}
use lib.ListN.{length, take}
use lib.Seq.{length-take-le}
use Rattle.f32s.specs.Single.{within}
use Rattle.std.specs.Prelude.{Ok, Err, Some, None}
use Rattle.refusal.specs.declared.Refusal.{Refusal}
use Rattle.refusal.specs.Answer.{Said, accepted, done, refused, number_of, place_of, Says}
use Rattle.refusal.specs.First.{first_bad, FindsBad}
use Rattle.refusal.specs.Limits.{most}
use Rattle.refusal.specs.Lent.{over, Lent, WritesBoth}
use Rattle.refusal.specs.Numbers.{bad_component}
use Rattle.refusal.proofs.FirstBad.{some_bad, none_bad, found_first, found_none}
use Rattle.refusal.proofs.Over.{both_accepted}
use Rattle.trellis.specs.Choice.{k5}
use Rattle.symbols.specs.Decode.{word, filled_rows}
use Rattle.symbols.specs.Inner.{Finds}
use Rattle.symbols.specs.Said.{examined, symbols_in, room_for, soft_said, hard_said}
use Rattle.symbols.proofs.Lengths.{length-word, length-survivors}
use Rattle.symbols.proofs.Room.{room_refused, room_passes, room_few}

-- ---- `viterbi_decode`

module _ (soft : List Float) (room scratch : ℕ) where
  abbrev count : ℕ
  count = symbols_in soft

  abbrev said : Said ℕ
  said = soft_said soft room scratch

  pub soft_refused :
      (r : Refusal) → Says {A = Unit {0}} (Err r) (room_for count room scratch done) → said ≡ refused (number_of r) (place_of r)
  unfolding soft_said
  soft_refused r is = room_refused count room scratch r is _

  module _ (is : Says (Ok tt) (room_for count room scratch done)) where
    abbrev used : List Float
    used = take (2 * count) soft

    sized : length used ≡ 2 * count
    sized = length-take-le (2 * count) soft (omega arith)

    -- an odd last component is not among them
    said_of_used : said ≡ examined used (accepted count)
    unfolding soft_said
    said_of_used = room_passes count room scratch is _

    pub beyond : {bad : ℕ} → FindsBad within used (Some bad) → said ≡ refused bad_component bad
    beyond {bad} found =
        let first = found_first within _ bad found in
        said_of_used ∙ some_bad within bad_component used (accepted count) bad first.0 first.1

    pub beyond_few : {bad : ℕ} → FindsBad within used (Some bad) → bad < 2 * most
    beyond_few {bad} found =
        omega (arith, (found_first within _ bad found).1, sized, room_few count room scratch is)

    pub all_within : FindsBad within used None → said ≡ accepted count
    all_within found =
        said_of_used
        ∙ none_bad within bad_component used (accepted count) (first_bad within used) refl (found_none within _ found)

-- ---- `viterbi_decode_hard`

module _ (bits : List ℕ) (room scratch : ℕ) where
  pub hard_refused :
      (r : Refusal) → Says {A = Unit {0}} (Err r) (room_for (symbols_in bits) room scratch done) →
      hard_said bits room scratch ≡ refused (number_of r) (place_of r)
  unfolding hard_said
  hard_refused r is = room_refused (symbols_in bits) room scratch r is _

  pub hard_accepted :
      Says (Ok tt) (room_for (symbols_in bits) room scratch done) → hard_said bits room scratch ≡ accepted (symbols_in bits)
  unfolding hard_said
  hard_accepted is = room_passes (symbols_in bits) room scratch is _

-- ---- what a decoding leaves is what it promises

pub finds_decodes :
    {said : Said ℕ} {soft : List Float} {count : ℕ} {out scratch : Lent ℕ} → said ≡ accepted count →
    Finds k5 soft count out scratch →
    WritesBoth (Says (Ok count)) said (word k5 soft count) out (filled_rows k5 soft count) scratch
unfolding over
finds_decodes {said} {soft} {count} accepts found =
    both_accepted accepts refl
    (found.output ∙ rw (length-word k5 soft count))
    (found.survivors ∙ rw (length-survivors k5 (lit< tt) soft count))
