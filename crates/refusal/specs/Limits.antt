-- How much one call may bring. Definitions only.
use Rattle.std.specs.Prelude.{ℕ}

-- the most info bits or symbols: one more is refusal 3
abbrev pub most : ℕ
most = 16384
