-- A loop that puts an element in at each turn: what is still to be put in, and what it comes to. Over any capacity. Assumes nothing.
use mathlib.Core.List.{List, [], ◌∷◌}
use mathlib.Core.Path.{◌≡◌, sym, ap, ◌∙◌}
use Prim.Native.Nat.{ℕ, suc}
use native.Mathlib.Omega.{arith}
use Rattle.queue.specs.Ring.{Ring, put_one, put_all}
use Rattle.queue.specs.Inner.{Room}

-- With n turns left of `all`, r lacks only what these put in, `us n`, of what all of them put into `start`.
pub record Filling (cap : ℕ) (us : ℕ → List ℕ) (start : Ring) (all n : ℕ) (r : Ring) : Type 0 where
  pub room : Room cap r n
  pub ends : put_all cap r (us n) ≡ put_all cap start (us all)

module _ {cap : ℕ} {us : ℕ → List ℕ} {start : Ring} {all n : ℕ} {r : Ring} (now : Filling cap us start all n r) where
  pub filling_goes_on :
      {m v : ℕ} {next : Ring} → n ≡ suc m → us (suc m) ≡ v ∷ us m → next ≡ put_one cap r v → Filling cap us start all m next
  unfolding put_all
  filling_goes_on left e f =
      record {
        room = rw f (record { head = now.room.head; count = omega (arith, now.room.count) });
        ends = rw f (ap (put_all cap r) (sym e) ∙ ap (λ (k : ℕ). put_all cap r (us k)) (sym left) ∙ now.ends);
      }

  pub filling_ends : n ≡ 0 → us 0 ≡ [] → r ≡ put_all cap start (us all)
  unfolding put_all
  filling_ends none e = ap (put_all cap r) (sym e) ∙ ap (λ (k : ℕ). put_all cap r (us k)) (sym none) ∙ now.ends
