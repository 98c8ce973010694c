-- How many readings a decoding uses at most, and how many survivors it keeps. Definitions only.
use Rattle.std.specs.Prelude.{ℕ, ◌*◌, ◌^◌}
use Rattle.refusal.specs.Limits.{most}
use Rattle.trellis.specs.Choice.{k7, code_of}
use Rattle.trellis.specs.Codeword.{steps_of}

-- the most readings that a decoding uses: two for each step of the longest word in the wider code
abbrev pub most_readings : ℕ
most_readings = 2 * steps_of k7 most

-- how many survivors there are: steps × states
abbrev pub survivors_of : (code info : ℕ) → ℕ
survivors_of code info = steps_of (code_of code) info * 2 ^ (code_of code).width
