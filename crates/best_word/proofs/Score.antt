-- What a word gains over whole readings is 01's score: how well what it sends agrees with them. Assumes nothing.
use mathlib.Core.Bool.{Bool, true, false, cond}
use mathlib.Core.List.{List, [], ◌∷◌, ◌++◌}
use mathlib.Core.Path.{◌≡◌, refl, sym, ap, ap₂, ◌∙◌}
use Prim.Native.Nat.{ℕ, zero, suc, ◌+◌, ◌<◌}
use native.Mathlib.Nat.{add-zero}
use lib.Dec.{eqb}
use lib.IntN.{ℤ, pos, neg_ℤ, ◌+ℤ◌, +ℤ_idl, +ℤ_idr, +ℤ_assoc}
use lib.ListN.{length, get_or, drop, replicate}
use lib.Seq.{drop-drop, get_or-drop}
use Rattle.best_path.specs.Path.{gained}
use Rattle.best_path.proofs.InfoWords.{info_leads}
use Rattle.correlation.specs.Gain.{correlation, brings, read0, read1, gain}
use Rattle.correlation.specs.Whole.{whole}
use Rattle.correlation.proofs.Sizes.{signed_sum}
use Rattle.trellis.specs.declared.ConvCode.{ConvCode}
use Rattle.trellis.specs.Codeword.{coded0, coded1, sent_by, steps_of, codeword}
use Rattle.trellis.specs.Keep.{Keep, Pattern, keeps0, keeps1, only_if, kept_of, kept_through, coded_length}
use Rattle.trellis.specs.Places.{place0, place1}
use Rattle.trellis.proofs.Kept.{one, length-only}
use Rattle.trellis.proofs.Places.{reading_value}
use Rattle.trellis.proofs.Sent.{length-sent, tailed_bits, coded0_state, coded1_state}
use Rattle.trellis.proofs.States.{Inputs}
use Rattle.best_word.specs.Claim.{agreement, InfoWord}
use Rattle.best_word.proofs.WholeRun.{read_of}

-- ---- the agreement of a list in parts

-- what a place adds: its reading, or the negative where the codeword has 1
abbrev pub signed_by : ℕ → ℤ → ℤ
signed_by c z = cond (eqb c 0) z (neg_ℤ z)

signed_zero : (c : ℕ) → signed_by c (pos 0) ≡ pos 0
signed_zero c = go (eqb c 0)
  where
    go : (b : Bool) → cond b (pos 0) (neg_ℤ (pos 0)) ≡ pos 0
    go true = refl
    go false = refl

agreement_nil : (cs : List ℕ) → agreement cs [] ≡ pos 0
unfolding agreement
agreement_nil [] = refl
agreement_nil (c ∷ cs) = refl

-- one place, also where its reading is missing
pub agreement_cons :
    (c : ℕ) (cs : List ℕ) (zs : List ℤ) →
    agreement (c ∷ cs) zs ≡ signed_by c (get_or zs 0 (pos 0)) +ℤ agreement cs (drop 1 zs)
unfolding agreement
agreement_cons c cs [] = rw (signed_zero c, agreement_nil cs)
agreement_cons c cs (z ∷ zs) = refl

agreement_append :
    (xs ys : List ℕ) (zs : List ℤ) → agreement (xs ++ ys) zs ≡ agreement xs zs +ℤ agreement ys (drop (length xs) zs)
unfolding agreement
agreement_append [] ys zs = sym (+ℤ_idl (agreement ys zs))
agreement_append (c ∷ xs) ys [] = rw (agreement_nil ys)
agreement_append (c ∷ xs) ys (z ∷ zs) =
    ap (λ (s : ℤ). signed_by c z +ℤ s) (agreement_append xs ys zs)
    ∙ sym (+ℤ_assoc (signed_by c z) (agreement xs zs) (agreement ys (drop (length xs) zs)))

agreement_only :
    (kept : Bool) (c : ℕ) (zs : List ℤ) (n : ℕ) → agreement (only_if kept c) (drop n zs) ≡ signed_by c (read_of kept zs n)
unfolding agreement
agreement_only true c zs n =
    agreement_cons c [] (drop n zs) ∙ +ℤ_idr (signed_by c (get_or (drop n zs) 0 (pos 0)))
    ∙ ap (signed_by c) (rw (get_or-drop n zs 0, add-zero n) (sym (reading_value (pos 0) zs n)))
agreement_only false c zs n = sym (signed_zero c)

-- ---- a step, and all steps

correlation_signed : (a b : ℤ) (c0 c1 : ℕ) → correlation whole a b c0 c1 ≡ signed_by c0 a +ℤ signed_by c1 b
unfolding correlation
correlation_signed a b c0 c1 = go (eqb c0 0) (eqb c1 0)
  where
    go : (p q : Bool) → signed_sum p q a b ≡ cond p a (neg_ℤ a) +ℤ cond q b (neg_ℤ b)
    go true true = refl
    go true false = refl
    go false true = refl
    go false false = refl

-- the kept bits of step t agree with the readings behind those of the steps before as the branch's correlation says
agreement_step :
    (p : Keep) (zs : List ℤ) (t c0 c1 : ℕ) →
    agreement (kept_of p t c0 c1) (drop (coded_length p t) zs) ≡ correlation whole (read0 whole p zs t) (read1 whole p zs t) c0 c1
unfolding kept_of place0 place1
agreement_step p zs t c0 c1 =
    let n = coded_length p t in
    let k0 = keeps0 p t in
    agreement_append (only_if k0 c0) (only_if (keeps1 p t) c1) (drop n zs)
    ∙ ap₂ ◌+ℤ◌ (agreement_only k0 c0 zs n)
    (rw (length-only k0 c0, drop-drop (one k0) n zs) (agreement_only (keeps1 p t) c1 zs (n + one k0)))
    ∙ sym (correlation_signed (read0 whole p zs t) (read1 whole p zs t) c0 c1)

module _ (code : ConvCode) (some : 0 < code.width) (p : Keep) (good : Pattern p) (zs : List ℤ) where
  pub gained_agreement :
      (w : List ℕ) → Inputs w → (t : ℕ) → gained code (gain whole code p zs) w t ≡ agreement (sent_by code p w t) zs
  unfolding gained sent_by kept_through agreement gain brings
  gained_agreement w are zero = refl
  gained_agreement w are (suc t) =
      let c0 = coded0 code w t in
      let c1 = coded1 code w t in
      ap₂ ◌+ℤ◌ (gained_agreement w are t)
      (rw (← coded0_state code some w are t, ← coded1_state code some w are t) (sym (agreement_step p zs t c0 c1))
      ∙ ap (λ (n : ℕ). agreement (kept_of p t c0 c1) (drop n zs)) (sym (length-sent code p good w t)))
      ∙ sym (agreement_append (sent_by code p w t) (kept_of p t c0 c1) zs)

  -- an info word's gain with its zero tail is its codeword's score
  pub gained_codeword :
      (info : ℕ) (u : List ℕ) → InfoWord info u →
      gained code (gain whole code p zs) (u ++ replicate code.width 0) (steps_of code info) ≡ agreement (codeword code p u) zs
  unfolding codeword
  gained_codeword info u is =
      rw (is.sized, tailed_bits code u is.bits)
      (gained_agreement (u ++ replicate code.width 0) (info_leads code some info u is.sized is.bits).bits (steps_of code info))
