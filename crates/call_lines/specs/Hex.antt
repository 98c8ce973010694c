-- Digits as answers print them, in lower-case hex, in ASCII. Definitions only.
use Rattle.std.specs.Prelude.{cond, ℕ, ◌+◌, ltb}

-- 0 to 9, then a to f
abbrev pub digit : ℕ → ℕ
digit d = cond (ltb d 10) (48 + d) (87 + d)
