-- Sound words, as a rule to reason by: they begin and end with 1 and hold no 00. Over any list of bits. Assumes nothing.
use mathlib.Core.List.{List, [], ◌∷◌}
use mathlib.Core.Path.{◌≡◌, refl}
use Prim.Native.Nat.{ℕ, zero, suc, ◌<◌}
use native.Mathlib.Omega.{arith}
use lib.Dec.{T, eqb, eqb→eq, eqb-suc-zero}
use lib.ListN.{length, get_or}
use Rattle.varicode_words.specs.Word.{sound}
use Rattle.varicode_words.proofs.Table.{both}

pub data Sound : List ℕ → Type 0 where
  one : Sound (1 ∷ [])
  after_one : {bs : List ℕ} → Sound bs → Sound (1 ∷ bs)
  after_gap : {bs : List ℕ} → Sound bs → Sound (1 ∷ 0 ∷ bs)

pub sound_rule : (bs : List ℕ) → T (sound bs) → Sound bs
unfolding sound
sound_rule [] t = absurd t
sound_rule (b ∷ []) t = rw (eqb→eq b 1 t) one
sound_rule (b ∷ zero ∷ bs) t =
    let s = both (eqb b 1) (sound bs) t in
    rw (eqb→eq b 1 s.0) (after_gap (sound_rule bs s.1))
sound_rule (b ∷ suc c ∷ bs) t =
    let s = both (eqb b 1) (sound (suc c ∷ bs)) (rw (eqb-suc-zero c) at t) in
    rw (eqb→eq b 1 s.0) (after_one (sound_rule (suc c ∷ bs) s.1))

pub sound_begins : {bs : List ℕ} → Sound bs → get_or bs 0 0 ≡ 1
sound_begins one = refl
sound_begins (after_one s) = refl
sound_begins (after_gap s) = refl

pub sound_some : {bs : List ℕ} → Sound bs → 0 < length bs
sound_some one = omega arith
sound_some (after_one s) = omega arith
sound_some (after_gap s) = omega arith

pub sound_ends : {bs : List ℕ} → Sound bs → (i : ℕ) → suc i ≡ length bs → get_or bs i 0 ≡ 1
sound_ends one zero e = refl
sound_ends one (suc i) e = absurd (omega arith)
sound_ends (after_one s) zero e = refl
sound_ends (after_one s) (suc i) e = sound_ends s i (omega arith)
sound_ends (after_gap s) zero e = refl
sound_ends (after_gap s) (suc zero) e = absurd (omega (arith, sound_some s))
sound_ends (after_gap s) (suc (suc i)) e = sound_ends s i (omega arith)

pub sound_no_gap : {bs : List ℕ} → Sound bs → (i : ℕ) → suc i < length bs → get_or bs i 0 ≡ 0 → get_or bs (suc i) 0 ≡ 0 → ⊥
sound_no_gap one i h p q = omega arith
sound_no_gap (after_one s) zero h p q = omega arith
sound_no_gap (after_one s) (suc i) h p q = sound_no_gap s i (omega arith) p q
sound_no_gap (after_gap s) zero h p q = omega arith
sound_no_gap (after_gap s) (suc zero) h p q = omega (arith, sound_begins s)
sound_no_gap (after_gap s) (suc (suc i)) h p q = sound_no_gap s i (omega arith) p q
