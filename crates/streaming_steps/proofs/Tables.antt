-- The tables of what K5 sends from its even states: each entry is the parity of the masked window. Assumes nothing.
use mathlib.Core.List.{List, ◌∷◌}
use mathlib.Core.Path.{◌≡◌, refl}
use Prim.Native.Nat.{ℕ, zero, suc, ◌-◌, ◌*◌, ◌^◌, ◌<◌}
use native.Mathlib.Omega.{arith}
use lib.Count.{ones}
use lib.Dec.{lit<, lit≤}
use lib.ListN.{get_or, replicate}
use Rattle.trellis.specs.Choice.{k5, code_of}
use Rattle.trellis.specs.Inner.{Crossed}
use Rattle.trellis.specs.State.{window, parity_of}
use Rattle.trellis.proofs.Chosen.{code_ends}

-- half the states: a table has an entry for each even one
abbrev half : ℕ
half = 2 ^ (k5.width - 1)

abbrev sent0 : List ℕ
sent0 = 0 ∷ 0 ∷ 1 ∷ 1 ∷ 0 ∷ 0 ∷ 1 ∷ 1 ∷ replicate 24 0

abbrev sent1 : List ℕ
sent1 = 0 ∷ 1 ∷ 0 ∷ 1 ∷ 0 ∷ 1 ∷ 0 ∷ 1 ∷ replicate 24 0

first_sent : (n : ℕ) → n < half → get_or sent0 n 0 ≡ parity_of k5.g0 (window k5 (2 * n) 0)
unfolding parity_of ones
first_sent zero h = refl
first_sent (suc zero) h = refl
first_sent (suc (suc zero)) h = refl
first_sent (suc (suc (suc zero))) h = refl
first_sent (suc (suc (suc (suc zero)))) h = refl
first_sent (suc (suc (suc (suc (suc zero))))) h = refl
first_sent (suc (suc (suc (suc (suc (suc zero)))))) h = refl
first_sent (suc (suc (suc (suc (suc (suc (suc zero))))))) h = refl
first_sent (suc (suc (suc (suc (suc (suc (suc (suc n)))))))) h = absurd (omega arith)

second_sent : (n : ℕ) → n < half → get_or sent1 n 0 ≡ parity_of k5.g1 (window k5 (2 * n) 0)
unfolding parity_of ones
second_sent zero h = refl
second_sent (suc zero) h = refl
second_sent (suc (suc zero)) h = refl
second_sent (suc (suc (suc zero))) h = refl
second_sent (suc (suc (suc (suc zero)))) h = refl
second_sent (suc (suc (suc (suc (suc zero))))) h = refl
second_sent (suc (suc (suc (suc (suc (suc zero)))))) h = refl
second_sent (suc (suc (suc (suc (suc (suc (suc zero))))))) h = refl
second_sent (suc (suc (suc (suc (suc (suc (suc (suc n)))))))) h = absurd (omega arith)

pub sent_crossed : Crossed k5 half sent0 sent1
unfolding code_of
sent_crossed =
    record { some = lit< tt; few = lit≤ tt; halved = refl; ends = code_ends 0; first = first_sent; second = second_sent }
