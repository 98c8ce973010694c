-- The count in an accepted answer is how many bits are roomed, and the coded length is that of the codeword. Assumes nothing.
use mathlib.Core.List.{List}
use mathlib.Core.Path.{◌≡◌, ◌∙◌}
use Prim.Native.Nat.{ℕ, ◌*◌}
use lib.Dec.{ltb}
use lib.ListN.{length}
use Rattle.refusal.specs.Answer.{accepted}
use Rattle.refusal.specs.Limits.{most}
use Rattle.refusal.specs.Numbers.{too_many, short_output}
use Rattle.refusal.proofs.Told.{accepted_past, accepted_told}
use Rattle.trellis.specs.Choice.{k5, half, code_of, pattern_of}
use Rattle.trellis.specs.Codeword.{lowest_bits}
use Rattle.trellis.proofs.Chosen.{rate_pattern, half_length}
use Rattle.trellis.proofs.Sent.{length-sent, length-codeword}
use Rattle.encoder.specs.Encode.{coded_length_of, roomed, length_said, encode_said, encode_word, plain_said, plain_word}
use Rattle.encoder.proofs.Checks.{checked_past}

length-encoded : (code rate : ℕ) (info : List ℕ) → length (encode_word code rate info) ≡ coded_length_of code rate (length info)
length-encoded code rate info = length-codeword (code_of code) (pattern_of code rate) (rate_pattern code rate) info

length-plain : (bits : List ℕ) → length (plain_word bits) ≡ 2 * length bits
unfolding plain_word pattern_of
length-plain bits = length-sent k5 half (rate_pattern 0 0) (lowest_bits bits) (length bits) ∙ half_length (length bits)

-- what was accepted had room
roomed_past : (need room n : ℕ) → roomed need room ≡ accepted n → need ≡ n
roomed_past need room n e = accepted_told need n (accepted_past (ltb room need) short_output (accepted need) n e)

-- `punctured_coded_len_with`
pub length-count :
    (code rate : ℕ) (info : List ℕ) (n : ℕ) → length_said code rate (length info) ≡ accepted n → length (encode_word code rate info) ≡ n
unfolding length_said
length-count code rate info n e =
    length-encoded code rate info
    ∙ accepted_told _ n (checked_past code rate (length info) (accepted (coded_length_of code rate (length info))) n e)

-- `conv_encode_punctured_with`
pub encode_count :
    (code rate room : ℕ) (info : List ℕ) (n : ℕ) → encode_said code rate (length info) room ≡ accepted n →
    length (encode_word code rate info) ≡ n
unfolding encode_said
encode_count code rate room info n e =
    length-encoded code rate info
    ∙ roomed_past _ room n (checked_past code rate (length info) (roomed (coded_length_of code rate (length info)) room) n e)

-- `conv_encode`
pub plain_count : (room : ℕ) (bits : List ℕ) (n : ℕ) → plain_said (length bits) room ≡ accepted n → length (plain_word bits) ≡ n
unfolding plain_said
plain_count room bits n e =
    length-plain bits ∙ roomed_past _ room n (accepted_past (ltb most (length bits)) too_many (roomed (2 * length bits) room) n e)
