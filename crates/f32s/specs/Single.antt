-- One f32: is it finite, is it within ±1,024, and the value of four bytes; and of many. Definitions only.
use Rattle.std.specs.Prelude.{Bool, true, false, ◌&&◌, List, [], ◌∷◌, ◌++◌, ℕ, ◌+◌, ◌*◌, Float}
use Rattle.std.specs.Borrow.{Bor}
use denote.Triple.Both.{Both}
use Rattle.std.specs.Float.{nan, inf, fin, binary32}
use Rattle.std.specs.Float.Ieee.{of_bits, neg, le}

abbrev pub zero32 : Float
zero32 = of_bits binary32 0

-- neither NaN nor infinite
abbrev pub finite : Float → Bool
finite nan = false
finite (inf s) = false
finite (fin s m e) = true

-- 1,024
abbrev pub farthest : Float
farthest = of_bits binary32 0x4480_0000

-- neither NaN nor beyond ±1,024
abbrev pub within : Float → Bool
within x = le (neg farthest) x && le x farthest

-- the bits that four bytes have, low first
abbrev pub joined : (b0 b1 b2 b3 : ℕ) → ℕ
joined b0 b1 b2 b3 = b0 + 256 * b1 + 65536 * b2 + 16777216 * b3

-- four bytes by their bits; every NaN pattern is the one NaN
abbrev pub of_bytes : (b0 b1 b2 b3 : ℕ) → Float
of_bytes b0 b1 b2 b3 = of_bits binary32 (joined b0 b1 b2 b3)

-- four bytes for each; a last piece under four bytes is surplus
unfoldable pub all_of_bytes : List ℕ → List Float
all_of_bytes [] = []
all_of_bytes (b0 ∷ []) = []
all_of_bytes (b0 ∷ b1 ∷ []) = []
all_of_bytes (b0 ∷ b1 ∷ b2 ∷ []) = []
all_of_bytes (b0 ∷ b1 ∷ b2 ∷ b3 ∷ rest) = of_bytes b0 b1 b2 b3 ∷ all_of_bytes rest

-- f32s, and behind them those of bytes
abbrev pub values_in : (floats : List Float) → (bytes : List ℕ) → List Float
values_in floats bytes = floats ++ all_of_bytes bytes

-- the same of what is lent to a call
abbrev pub values_lent : Both (Bor (List Float)) (Bor (List Float)) → Both (Bor (List ℕ)) (Bor (List ℕ)) → List Float
values_lent floats bytes = values_in floats.entry.now bytes.entry.now
