-- A metric as the code holds it: one above the floor is a sum. Assumes nothing.
use mathlib.Core.Bool.{Bool, true, false}
use mathlib.Core.Logic.{⊎_elim}
use mathlib.Core.Path.{◌≡◌, sym, subst, ◌∙◌}
use Prim.Native.Nat.{ℕ, ◌^◌, ◌≤◌}
use native.Mathlib.Omega.{arith}
use lib.Dec.{T}
use lib.IntN.{ℤ, nat_abs}
use lib.Signed.{lt_z}
use Rattle.signed_butterflies.specs.Held.{floor, Near}
use Rattle.signed_butterflies.specs.Sound.{off_below_lem}

-- a metric above the floor is a sum
pub near_reached : (bound : ℕ) → bound ≤ 2 ^ 28 → (x : ℤ) → Near bound x → lt_z x floor ≡ false → nat_abs x ≤ bound
near_reached bound few x near above =
    ⊎_elim (λ h. h)
    (λ h.
    let never : ◌≡◌ {A = Bool} true false = sym (off_below_lem x (omega (arith, h, few))) ∙ above in
    absurd (subst T never tt))
    near.near
