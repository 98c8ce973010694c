-- Past the limit on info a call is refused, whatever it would read, answer or write. So two calls that are the same up to the
-- limit are the same. For any kind of decoder. Assumes nothing.
use mathlib.Core.Bool.{Bool, true, false, not}
use mathlib.Core.List.{List}
use mathlib.Core.Path.{◌≡◌, refl, sym, ap, ◌∙◌}
use Prim.Native.Nat.{ℕ, ◌≤◌, ◌<◌}
use native.Mathlib.Decide.{dec_lt}
use native.Mathlib.Omega.{arith}
use borrow.Author.Tests.{lt-ltb}
use lib.ListN.{take}
use Rattle.encoder.specs.Encode.{coded_length_of}
use Rattle.refusal.specs.Answer.{Said, refused, refuse_when}
use Rattle.refusal.specs.Lent.{leaves}
use Rattle.refusal.specs.Limits.{most}
use Rattle.refusal.specs.Numbers.{unknown_code, unknown_rate, too_many}
use Rattle.trellis.specs.Choice.{known_code, known_rate}
use Rattle.correlation.specs.Said.{answered}

-- a call that is refused with 3 at the latest leaves nothing new, whether or not its code and rate are known
refused_leaves :
    (S : Type 0) (a b : Bool) (new old : List ℕ) →
    leaves {A = S} (refuse_when a unknown_code (refuse_when b unknown_rate (refused too_many 0))) new old ≡ old
refused_leaves S true b new old = refl
refused_leaves S false true new old = refl
refused_leaves S false false new old = refl

module _ {A S : Type 0} (bad_number : ℕ) (is_good : A → Bool) (code rate info room scratch : ℕ) where
  abbrev said : List A → S → Said S
  said readings score = answered bad_number is_good code rate info readings room scratch score

  pub limit_answers :
      (readings others : List A) (score other : S) →
      (info ≤ most → take (coded_length_of code rate info) readings ≡ take (coded_length_of code rate info) others) →
      (info ≤ most → score ≡ other) → said readings score ≡ said others other
  unfolding answered
  limit_answers readings others score other same same' =
      elim (dec_lt most info) [
        | yes many ↦ rw (lt-ltb most info many)
        | no few ↦ rw (same (omega arith), same' (omega arith))
      ]

  many_leave : most < info → (readings : List A) (score : S) (new old : List ℕ) → leaves (said readings score) new old ≡ old
  unfolding answered
  many_leave h readings score new old =
      rw (lt-ltb most info h) (refused_leaves S (not (known_code code)) (not (known_rate code rate)) new old)

  pub limit_leaves :
      (readings : List A) (score : S) (new other old : List ℕ) → (info ≤ most → new ≡ other) →
      leaves (said readings score) new old ≡ leaves (said readings score) other old
  limit_leaves readings score new other old same =
      elim (dec_lt most info) [
        | yes many ↦ many_leave many readings score new old ∙ sym (many_leave many readings score other old)
        | no few ↦ ap (λ (l : List ℕ). leaves (said readings score) l old) (same (omega arith))
      ]
