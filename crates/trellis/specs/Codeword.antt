-- What is sent for a list of inputs, for any code and keep pattern. Definitions only.
use Rattle.std.specs.Prelude.{List, ◌∷◌, ◌++◌, map, ℕ, ◌+◌, ◌%◌, length, get_or, replicate}
use Rattle.trellis.specs.declared.ConvCode.{ConvCode}
use Rattle.trellis.specs.Register.{coded_bit, register_after}
use Rattle.trellis.specs.Keep.{Keep, kept_through}

-- the window of step t: the input bit above the register
unfoldable pub window_at : ConvCode → List ℕ → ℕ → List ℕ
unfolding register_after
window_at code inputs t = get_or inputs t 0 ∷ register_after code.width inputs t

-- the coded bits of step t
unfoldable pub coded0 : ConvCode → List ℕ → ℕ → ℕ
unfolding coded_bit window_at
coded0 code inputs t = coded_bit code.g0 (window_at code inputs t)

unfoldable pub coded1 : ConvCode → List ℕ → ℕ → ℕ
unfolding coded_bit window_at
coded1 code inputs t = coded_bit code.g1 (window_at code inputs t)

-- what the first t steps send: of each step's two coded bits, G0's first, those that are kept
unfoldable pub sent_by : ConvCode → Keep → List ℕ → ℕ → List ℕ
unfolding coded0 coded1 kept_through
sent_by code p inputs t = kept_through p (coded0 code inputs) (coded1 code inputs) t

-- only the lowest bit of each input byte counts
unfoldable pub lowest_bits : List ℕ → List ℕ
lowest_bits bytes = map (λ (b : ℕ). b % 2) bytes

-- K - 1 zeros follow the info bits
unfoldable pub zero_tailed : ConvCode → List ℕ → List ℕ
unfolding lowest_bits
zero_tailed code info = lowest_bits info ++ replicate code.width 0

-- steps = info + K - 1
abbrev pub steps_of : ConvCode → ℕ → ℕ
steps_of code count = count + code.width

-- the zero-tailed, punctured codeword
unfoldable pub codeword : ConvCode → Keep → List ℕ → List ℕ
unfolding sent_by zero_tailed
codeword code p info = sent_by code p (zero_tailed code info) (steps_of code (length info))
