-- The line's answer: its own refusals first, then the decoder's, of which those of a short output and of short scratch
-- never come. Assumes nothing.
use mathlib.Core.Bool.{true, false, true≢false}
use mathlib.Core.List.{List, [], ◌∷◌}
use mathlib.Core.Path.{◌≡◌, sym, ap, ◌∙◌}
use Prim.Native.Nat.{ℕ, ◌+◌, ◌-◌, ◌*◌, ◌≤◌}
use native.Mathlib.Decide.{dec_lt}
use native.Mathlib.Nat.{mul-le-mul}
use native.Mathlib.Omega.{arith}
use borrow.Author.Tests.{lt-ltb, le-ltb}
use lib.Ieee.{Float}
use lib.ListN.{length, take, drop, replicate}
use lib.Pow.{pow_mono}
use lib.Seq.{take_at}
use Rattle.std.proofs.lemmas.List.{take_rest}
use Rattle.correlation.proofs.Lengths.{length-word}
use Rattle.std.specs.Prelude.{Result, Ok, Err}
use Rattle.std.specs.Int.{w16, from_le_bytes}
use Rattle.encoder.specs.Promise.{Decides}
use Rattle.encoder.proofs.Checks.{choice_refused, choice_passes, choice_passes_wider, choice_few}
use Rattle.f32s.specs.Single.{all_of_bytes}
use Rattle.forward.specs.Decode.{word}
use Rattle.forward.specs.Sums.{soft}
use Rattle.correlation.specs.Said.{answered}
use Rattle.readings.specs.Said.{survivors_of, decode_said}
use Rattle.refusal.specs.Answer.{accepted, refused, answer_said, number_of, place_of}
use Rattle.refusal.specs.declared.Refusal.{Refusal}
use Rattle.refusal.specs.Lent.{over, leaves}
use Rattle.refusal.specs.Limits.{most}
use Rattle.refusal.specs.Numbers.{bad_input}
use Rattle.trellis.specs.Choice.{k7, code_of, pattern_of}
use Rattle.trellis.specs.Codeword.{steps_of}
use Rattle.trellis.proofs.Chosen.{code_width}
use Rattle.line.specs.Line.{most_info, most_survivors, shaped, code_in, rate_in, info_in, readings_in}
use Rattle.line.specs.Line.{line_said, word_in, line_of, output}
use Rattle.line.specs.Inner.{refusal_said}

-- ---- the shape of the input

pub shaped_long : (n : ℕ) → shaped n ≡ true → 4 ≤ n
shaped_long n h =
    elim (dec_lt n 4) [
      | yes short ↦ absurd (true≢false (sym h ∙ rw (lt-ltb n 4 short)))
      | no long ↦ omega arith
    ]

pub unshaped_said : (input : List ℕ) → shaped (length input) ≡ false → line_said input ≡ refused bad_input 0
unfolding line_said
unshaped_said input h = rw h

pub output_refused :
    (input : List ℕ) (number place : ℕ) → line_said input ≡ refused number place →
    output input ≡ line_of (refused number place) []
unfolding output
output_refused input number place e = rw e

-- ---- the code, the rate and the info count

-- the low byte first
pub info_read : (low high : ℕ) → from_le_bytes w16 (low ∷ high ∷ []) ≡ low + 256 * high
info_read low high = omega arith

-- a shaped input, and what is decided of its choice
pub record Decided (input : List ℕ) (r : Result (Unit {0}) Refusal) : Type 0 where
  pub is : shaped (length input) ≡ true
  pub decides : Decides most_info (code_in input) (rate_in input) (info_in input) r

choice_said : {input : List ℕ} {r : Refusal} → Decided input (Err r) → line_said input ≡ refusal_said r
unfolding line_said
choice_said decided = rw decided.is (choice_refused decided.decides _)

pub choice_output :
    {input : List ℕ} {r : Refusal} → Decided input (Err r) → output input ≡ line_of (refusal_said r) []
choice_output {input} {r} decided = output_refused input (number_of r) (place_of r) (choice_said decided)

-- ---- the decoder

-- scratch for the steps of the widest code is enough
survivors_few : (code info : ℕ) → info ≤ most_info → survivors_of code info ≤ most_survivors
survivors_few code info h =
    let steps : steps_of (code_of code) info ≤ steps_of k7 most_info = omega (arith, code_width code) in
    mul-le-mul steps (pow_mono (code_width code))

-- A call of the decoder for a shaped input whose choice passes: with the readings' bytes, room for the most info bits and
-- scratch for their survivors.
pub record Called (input bytes : List ℕ) (answer : Result Float Refusal) : Type 0 where
  pub choice : Decided input (Ok tt)
  pub behind : bytes ≡ drop 4 input
  pub says :
      answer_said answer ≡ decode_said (code_in input) (rate_in input) (info_in input) (all_of_bytes bytes) most_info most_survivors

-- the same, as the program calls it: with all bytes behind the first four
pub called_behind :
    (input : List ℕ) {answer : Result Float Refusal} → Decided input (Ok tt) →
    answer_said answer
    ≡ decode_said (code_in input) (rate_in input) (info_in input) (all_of_bytes (take (length input - 4) (drop 4 input)))
    most_info most_survivors →
    Called input (take (length input - 4) (drop 4 input)) answer
called_behind input choice says = record { choice = choice; behind = take_rest input 4; says = says }

module _ {input bytes : List ℕ} {answer : Result Float Refusal} (call : Called input bytes answer) where
  said_decoded :
      line_said input ≡ decode_said (code_in input) (rate_in input) (info_in input) (all_of_bytes bytes) most_info most_survivors
  unfolding line_said answered
  said_decoded =
      let few = choice_few call.choice.decides in
      rw (
        call.choice.is,
        call.behind,
        choice_passes call.choice.decides _,
        choice_passes_wider call.choice.decides most (omega arith) _,
        le-ltb most_info (info_in input) few,
        le-ltb most_survivors (survivors_of (code_in input) (info_in input)) (survivors_few (code_in input) (info_in input) few),
      )

  said_answer : line_said input ≡ answer_said answer
  said_answer = said_decoded ∙ sym call.says

  pub refused_output : {r : Refusal} → answer ≡ Err r → output input ≡ line_of (refusal_said r) []
  refused_output e = output_refused input _ _ (said_answer ∙ ap answer_said e)

  module _ {score : Float} (e : answer ≡ Ok score) where
    said_accepted : line_said input ≡ accepted score
    said_accepted = said_answer ∙ ap answer_said e

    -- what the call left in the word's room
    module _
        (left : List ℕ)
        (leaves_it :
        left
        ≡ leaves (decode_said (code_in input) (rate_in input) (info_in input) (all_of_bytes bytes) most_info most_survivors)
        (word (code_of (code_in input)) (pattern_of (code_in input) (rate_in input)) (all_of_bytes bytes) (info_in input))
        (replicate most_info 0)) where
      left_word : left ≡ over (word_in input) (replicate most_info 0)
      unfolding word_in
      left_word = leaves_it ∙ rw (sym said_decoded ∙ said_accepted, call.behind)

      front_word : take (info_in input) left ≡ word_in input
      unfolding word_in over
      front_word =
          ap (take (info_in input)) left_word
          ∙ take_at (word_in input) _ (info_in input)
          (length-word soft (code_of (code_in input)) (pattern_of (code_in input) (rate_in input)) (readings_in input) (info_in input))

      pub word_output : output input ≡ line_of (accepted score) (take (info_in input) left)
      unfolding output
      word_output = rw (said_accepted, front_word)
