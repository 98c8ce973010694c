-- At the start state 0 has its metric, and every other state the mark. Assumes nothing.
use mathlib.Core.Path.{◌≡◌, refl, sym, subst}
use Prim.Native.Nat.{ℕ, zero, suc, ◌-◌, ◌^◌}
use lib.ListN.{get_or, replicate}
use Rattle.trellis.specs.declared.ConvCode.{ConvCode}
use Rattle.best_path.specs.Metric.{Metric}
use Rattle.best_path.specs.Run.{started_at}

-- behind the end of a list of one value is that value too
past_same : {A : Type 0} (x : A) (n s : ℕ) → get_or (replicate n x) s x ≡ x
past_same x zero s = refl
past_same x (suc n) zero = refl
past_same x (suc n) (suc s) = past_same x n s

module _ {M B : Type 0} (op : Metric M B) (code : ConvCode) (first : M) where
  pub others_marked : (s : ℕ) → get_or (started_at op code first) (suc s) op.mark ≡ op.mark
  others_marked s = past_same op.mark (2 ^ code.width - 1) s

  -- so what holds of the two holds of all
  pub started_holds : (Holds : M → Type 0) → Holds first → Holds op.mark → (s : ℕ) → Holds (get_or (started_at op code first) s op.mark)
  started_holds Holds of_first of_mark zero = of_first
  started_holds Holds of_first of_mark (suc s) = subst Holds (sym (others_marked s)) of_mark
