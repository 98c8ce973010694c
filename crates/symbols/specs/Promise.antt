-- What the entries promise: each contract is one of these. `Answers` is how the caller reads the answer (`Says r` of
-- an entry, `Numbers r` of a function that answers by a door's number), `out` and `scratch` the lent buffers.
-- Definitions only.
use Rattle.std.specs.Prelude.{List, ℕ, Float, length}
use Rattle.refusal.specs.Answer.{Said}
use Rattle.refusal.specs.Lent.{Lent, WritesBoth}
use Rattle.trellis.specs.Choice.{k5}
use Rattle.symbols.specs.Decode.{word, filled_rows}
use Rattle.symbols.specs.Said.{symbols_in, soft_said, hard_said, phasors_of}

-- `viterbi_decode`: the word goes to `out`, the survivor numbers of all symbols to `scratch`
abbrev pub DecodesSymbols : (Said ℕ → Type 0) → List Float → (out scratch : Lent ℕ) → Type 0
DecodesSymbols Answers soft out scratch =
    WritesBoth Answers (soft_said soft (length out.given) (length scratch.given))
    (word k5 soft (symbols_in soft)) out (filled_rows k5 soft (symbols_in soft)) scratch

-- `viterbi_decode_hard`: the same of the bits' phasors
abbrev pub DecodesHard : (Said ℕ → Type 0) → (bits : List ℕ) → (out scratch : Lent ℕ) → Type 0
DecodesHard Answers bits out scratch =
    WritesBoth Answers (hard_said bits (length out.given) (length scratch.given))
    (word k5 (phasors_of bits) (symbols_in bits)) out (filled_rows k5 (phasors_of bits) (symbols_in bits)) scratch
