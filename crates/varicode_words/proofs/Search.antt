-- Looking a word up: at most one byte is found. Assumes nothing.
use mathlib.Core.Bool.{Bool, true, false, cond, ◌&&◌}
use mathlib.Core.List.{List, [], ◌∷◌}
use Prim.Native.Nat.{ℕ, suc, ◌≤◌}
use native.Mathlib.Omega.{arith}
use lib.Dec.{eqb}
use lib.ListN.{length}
use Rattle.varicode_words.specs.Table.{words}
use Rattle.varicode_words.specs.Word.{length_of, found, decode_of}

-- a choice of two lists of one entry at most
pub either_few : (one more : List ℕ) → length one ≤ 1 → length more ≤ 1 → (here : Bool) → length (cond here one more) ≤ 1
either_few one more f g true = f
either_few one more f g false = g

few_found : (ws : List ℕ) (k bits len : ℕ) → length (found ws k bits len) ≤ 1
unfolding found
few_found [] k bits len = omega arith
few_found (w ∷ ws) k bits len = either_few (k ∷ []) _ (omega arith) (few_found ws (suc k) bits len) (eqb w bits && eqb (length_of w) len)

pub few_decoded : (bits len : ℕ) → length (decode_of bits len) ≤ 1
unfolding decode_of
few_decoded bits len = few_found words 0 bits len
