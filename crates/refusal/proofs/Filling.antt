-- An output that is filled bit by bit, as calls come that bring one bit or none. Assumes nothing.
use mathlib.Core.List.{List, [], ◌∷◌, ◌++◌}
use mathlib.Core.Path.{◌≡◌, refl, sym, ap, ◌∙◌}
use Prim.Native.Nat.{ℕ, ◌+◌, ◌≤◌, ◌<◌}
use native.Mathlib.Omega.{arith}
use lib.ListN.{length, take, set, length-append, length-set}
use Rattle.refusal.specs.Lent.{over}
use Rattle.refusal.proofs.Over.{over_none, over_set, over_more}

-- at most i bits at the front of what was lent
pub record Written (out₀ bits : List ℕ) (i : ℕ) (out : List ℕ) (written : ℕ) : Type 0 where
  pub sized : length out ≡ length out₀
  pub counted : written ≡ length bits
  pub few : written ≤ i
  pub filled : out ≡ over bits out₀

pub none_written : (out₀ bits : List ℕ) → [] ≡ bits → Written out₀ bits 0 out₀ 0
none_written out₀ bits e =
    record { sized = refl; counted = ap length e; few = omega arith; filled = over_none out₀ ∙ ap (λ (l : List ℕ). over l out₀) e }

module _
    (out₀ bits more : List ℕ) (i : ℕ) (out : List ℕ) (written : ℕ) (so_far : Written out₀ bits i out written) (new : List ℕ)
    (count : ℕ) where
  pub as_before : bits ≡ more → new ≡ out → count ≡ written → Written out₀ more (i + 1) new count
  as_before e f g =
      record {
        sized = ap length f ∙ so_far.sized;
        counted = g ∙ so_far.counted ∙ ap length e;
        few = omega (arith, g, so_far.few);
        filled = f ∙ so_far.filled ∙ ap (λ (l : List ℕ). over l out₀) e;
      }

  -- a bit put behind those that stand already
  pub one_more :
      (b : ℕ) → written < length out → bits ++ b ∷ [] ≡ more → new ≡ set out written b → count ≡ written + 1 →
      Written out₀ more (i + 1) new count
  one_more b inside e f g =
      record {
        sized = ap length f ∙ length-set out written b ∙ so_far.sized;
        counted = g ∙ ap (λ (n : ℕ). n + 1) so_far.counted ∙ sym (length-append bits (b ∷ [])) ∙ ap length e;
        few = omega (arith, g, so_far.few);
        filled =
            f
            ∙ over_set out written b inside
            ∙ ap (λ (l : List ℕ). over (take written l ++ b ∷ []) l) so_far.filled
            ∙ over_more bits (b ∷ []) out₀ written so_far.counted
            ∙ ap (λ (l : List ℕ). over l out₀) e;
      }

-- there is room for one more, where there is for as many as may come
pub written_inside :
    {out₀ bits out : List ℕ} {i written most : ℕ} → Written out₀ bits i out written → i < most → most ≤ length out₀ →
    written < length out
written_inside w h k = omega (arith, w.few, w.sized)
