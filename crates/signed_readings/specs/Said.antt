-- What `viterbi_decode_signed_with` answers, for every input. Definitions only.
use Rattle.std.specs.Prelude.{Bool, not, List, ℕ, ℤ, pos, negsuc}
use Rattle.std.specs.Int.Signed.{lt_z}
use Rattle.best_path.specs.Path.{Total, none, total}
use Rattle.correlation.specs.Decode as any
use Rattle.correlation.specs.Said.{answered}
use Rattle.correlation.specs.Whole.{exactly}
use Rattle.refusal.specs.Answer.{Said}
use Rattle.refusal.specs.Numbers.{bad_signed_byte}
use Rattle.trellis.specs.declared.ConvCode.{ConvCode}
use Rattle.trellis.specs.Choice.{code_of, pattern_of}
use Rattle.trellis.specs.Keep.{Keep}

-- −127 or above: of the signed bytes all but −128
abbrev pub is_reading : ℤ → Bool
is_reading z = not (lt_z z (negsuc 126))

-- a total as a number; state 0 is always reached, so that the score has one (`score_counts`)
abbrev pub count_of : Total → ℤ
count_of none = pos 0
count_of (total z) = z

-- the winning score: state 0's last total
abbrev pub score : ConvCode → Keep → List ℤ → (info : ℕ) → ℤ
score code p readings info = count_of (any.score exactly code p readings info)

-- the refusals in their order, with 12 at the first used byte that is −128; then the score
abbrev pub decode_said : (code rate info : ℕ) → List ℤ → (room scratch : ℕ) → Said ℤ
decode_said code rate info readings room scratch =
    answered bad_signed_byte is_reading code rate info readings room scratch
    (score (code_of code) (pattern_of code rate) readings info)
