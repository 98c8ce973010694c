-- What `viterbi_decode` and `viterbi_decode_hard` answer, for every input. Definitions only.
use Rattle.std.specs.Prelude.{List, [], ◌∷◌, ℕ, ◌*◌, ◌/◌, ◌%◌, ◌^◌, ltb, Float, length, take}
use Rattle.f32s.specs.Single.{within}
use Rattle.refusal.specs.Answer.{Said, accepted, refuse_when}
use Rattle.refusal.specs.First.{first_bad, refuse_at_bad}
use Rattle.refusal.specs.Limits.{most}
use Rattle.refusal.specs.Numbers.{too_many, short_output, short_scratch, bad_component}
use Rattle.trellis.specs.Choice.{k5}
use Rattle.symbols.specs.Costs.{phasor_of}

-- refusal 7 at the first component that is NaN or beyond ±1,024
abbrev pub examined : {A : Type 0} → List Float → Said A → Said A
examined used rest = refuse_at_bad bad_component within used rest

-- so many symbols, a byte each for the output and a row of survivors each for scratch
abbrev pub room_for : {A : Type 0} → (count room scratch : ℕ) → Said A → Said A
room_for count room scratch rest =
    refuse_when (ltb most count) too_many
    (refuse_when (ltb room count) short_output
    (refuse_when (ltb scratch (count * 2 ^ k5.width)) short_scratch rest))

-- an odd last component is ignored and unexamined
abbrev pub symbols_in : {A : Type 0} → List A → ℕ
symbols_in list = length list / 2

unfoldable pub soft_said : List Float → (room scratch : ℕ) → Said ℕ
unfolding first_bad
soft_said soft room scratch =
    room_for (symbols_in soft) room scratch (examined (take (2 * symbols_in soft) soft) (accepted (symbols_in soft)))

unfoldable pub hard_said : List ℕ → (room scratch : ℕ) → Said ℕ
hard_said bits room scratch = room_for (symbols_in bits) room scratch (accepted (symbols_in bits))

-- the hard form masks each byte to its lowest bit, and is the soft form on the phasors
unfoldable pub phasors_of : List ℕ → List Float
phasors_of [] = []
phasors_of (b ∷ []) = []
phasors_of (b0 ∷ b1 ∷ bits) = (phasor_of (b0 % 2) (b1 % 2)).re ∷ (phasor_of (b0 % 2) (b1 % 2)).im ∷ phasors_of bits
