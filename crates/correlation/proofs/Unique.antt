-- Of each function that other crates may call, any two outcomes that its contract allows are equal. `Post` is the contract as the
-- prover reads it: of what the call is given, what it returns, and what it leaves in each argument. Assumes nothing.
use mathlib.Core.Path.{◌≡◌, sym, ap, ap₂, ◌∙◌}
use Prim.Native.Nat.{ℕ, ◌-◌, ◌^◌}
use native.Mathlib.Decide.{dec_lt}
use native.Mathlib.Omega.{arith}
use Rattle.refusal.proofs.Determined.{Once}
use Rattle.trellis.specs.declared.ConvCode.{ConvCode}
use Rattle.trellis.specs.declared.KeepPattern.{KeepPattern}
use Rattle.trellis.specs.declared.Selected.{Selected}
use Rattle.trellis.specs.Inner.{Chooses}
use Rattle.correlation.specs.declared.Prepared.{Prepared}
use Rattle.std.specs.Prelude.{Result, Ok, Err}
use Rattle.refusal.specs.declared.Refusal.{Refusal}
use Rattle.refusal.specs.Answer.{refused, number_of, place_of}
use Rattle.refusal.proofs.Told.{same_refusal}
use Rattle.correlation.specs.Inner.{UsedOf, Ready}
use Rattle.correlation.proofs.after.Reads as after
use Rattle.correlation.proofs.prepare.Reads as prepare

abbrev selected_of : ConvCode → KeepPattern → Selected
selected_of code keep = record { code = code; keep = keep }

abbrev prepared_of : Selected → ℕ → ℕ → Prepared
prepared_of chosen half used = record { chosen = chosen; half = half; used = used }

uses_once : {need count r r' : ℕ} → UsedOf need count r → UsedOf need count r' → r ≡ r'
uses_once {need} {count} p q =
    elim (dec_lt count need) [
      | yes h ↦ p.short h ∙ sym (q.short h)
      | no h ↦ p.enough (omega arith) ∙ sym (q.enough (omega arith))
    ]

choice_once : {code rate : ℕ} {r r' : Selected} → Chooses code rate r → Chooses code rate r' → r ≡ r'
choice_once p q = ap₂ selected_of (p.taps ∙ sym q.taps) (p.rows ∙ sym q.rows)

pub after_once : (κs column at : _) → Once (λ (r : ℕ). after.Post κs (column, (at, tt)) r (column, (at, tt)))
after_once κs column at r r' p q = p ∙ sym q

ready_once :
    {code rate info count : ℕ} (p q : Prepared) → Ready code rate info count p → Ready code rate info count q → p ≡ q
ready_once p q is is' =
    let chosen = choice_once is.chosen is'.chosen in
    let halves = is.halved ∙ ap (λ (c : Selected). 2 ^ (c.code.width - 1)) chosen ∙ sym is'.halved in
    ap₂ (λ (make : ℕ → Prepared) (used : ℕ). make used) (ap₂ prepared_of chosen halves) (uses_once is.used is'.used)

pub prepare_once :
    (κs code rate info count room scratch : _) →
    Once (λ (r : Result Prepared Refusal).
    prepare.Post κs (code, (rate, (info, (count, (room, (scratch, tt)))))) r (code, (rate, (info, (count, (room, (scratch, tt)))))))
prepare_once κs code rate info count room scratch (Ok p) (Ok q) is is' = ap Ok (ready_once p q is.ready is'.ready)
prepare_once κs code rate info count room scratch (Ok p) (Err e) is is' = cc (is.decided, is'.decided)
prepare_once κs code rate info count room scratch (Err e) (Ok q) is is' = cc (is.decided, is'.decided)
prepare_once κs code rate info count room scratch (Err d) (Err e) is is' =
    let same : refused (number_of d) (place_of d) ≡ refused (number_of e) (place_of e) = is.decided ∙ sym is'.decided in
    ap Err (same_refusal d e (cc) (cc))
