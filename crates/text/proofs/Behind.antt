-- What stands behind a line's text: zeros, of which those that are not written over stay. Assumes nothing.
use mathlib.Core.List.{List}
use mathlib.Core.Path.{◌≡◌, sym, ap, ◌∙◌}
use Prim.Native.Nat.{ℕ, ◌+◌, ◌-◌}
use native.Mathlib.Omega.{arith}
use Rattle.std.proofs.lemmas.List.{drop-drop, drop-replicate}
use lib.ListN.{drop, replicate}

fewer : (room start more : ℕ) → room - start - more ≡ room - (start + more)
fewer room start more = omega arith

pub zeros_stay :
    (start more room : ℕ) (bytes : List ℕ) → drop start bytes ≡ replicate (room - start) 0 →
    drop (start + more) bytes ≡ replicate (room - (start + more)) 0
zeros_stay start more room bytes zeros =
    sym (drop-drop more start bytes)
    ∙ rw zeros (drop-replicate more (room - start) 0 ∙ ap (λ (k : ℕ). replicate k 0) (fewer room start more))
