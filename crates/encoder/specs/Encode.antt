-- What the encoders and the coded length answer and write, for every input. Definitions only.
use Rattle.std.specs.Prelude.{not, List, ℕ, ◌*◌, ltb, length}
use Rattle.refusal.specs.Answer.{Said, accepted, refuse_when}
use Rattle.refusal.specs.Limits.{most}
use Rattle.refusal.specs.Numbers.{unknown_code, unknown_rate, too_many, short_output}
use Rattle.trellis.specs.Choice.{k5, half, known_code, code_of, known_rate, pattern_of}
use Rattle.trellis.specs.Codeword.{sent_by, lowest_bits, steps_of, codeword}
use Rattle.trellis.specs.Keep.{coded_length}

-- the coded length of an info count
abbrev pub coded_length_of : (code rate count : ℕ) → ℕ
coded_length_of code rate count = coded_length (pattern_of code rate) (steps_of (code_of code) count)

-- What every call with a code, a rate and an info count refuses, in this order, before it does what `rest` says; with
-- the most info bits that it takes.
abbrev pub checked_to : {A : Type 0} → (limit code rate count : ℕ) → Said A → Said A
checked_to limit code rate count rest =
    refuse_when (not (known_code code)) unknown_code
    (refuse_when (not (known_rate code rate)) unknown_rate
    (refuse_when (ltb limit count) too_many
    rest))

abbrev pub checked : {A : Type 0} → (code rate count : ℕ) → Said A → Said A
checked code rate count rest = checked_to most code rate count rest

-- an output of `need` elements, refused where the room is shorter
abbrev pub roomed : (need room : ℕ) → Said ℕ
roomed need room = refuse_when (ltb room need) short_output (accepted need)

-- `punctured_coded_len_with`
unfoldable pub length_said : (code rate count : ℕ) → Said ℕ
length_said code rate count = checked code rate count (accepted (coded_length_of code rate count))

-- `conv_encode_punctured_with`
unfoldable pub encode_said : (code rate count room : ℕ) → Said ℕ
encode_said code rate count room = checked code rate count (roomed (coded_length_of code rate count) room)

abbrev pub encode_word : (code rate : ℕ) → List ℕ → List ℕ
encode_word code rate info = codeword (code_of code) (pattern_of code rate) info

-- `conv_encode`: K5 at rate 1/2 with no zeros added, so two coded bits for each input
unfoldable pub plain_said : (count room : ℕ) → Said ℕ
plain_said count room = refuse_when (ltb most count) too_many (roomed (2 * count) room)

unfoldable pub plain_word : List ℕ → List ℕ
plain_word bits = sent_by k5 half (lowest_bits bits) (length bits)
