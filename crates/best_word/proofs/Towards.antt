-- Readings moved towards a codeword raise its score by at least as much as that of any equally long list. Place by place. Assumes nothing.
use mathlib.Core.Bool.{Bool, true, false, cond}
use mathlib.Core.List.{List, [], ◌∷◌, ◌++◌}
use mathlib.Core.Logic.{inr}
use mathlib.Core.Path.{◌≡◌, refl, sym, ap, ◌∙◌}
use Prim.Native.Nat.{ℕ, zero, suc, ◌<◌}
use native.Mathlib.Nat.{mod-lt}
use native.Mathlib.Omega.{arith}
use lib.Dec.{eqb, lit<}
use lib.IntN.{ℤ, pos, neg_ℤ, ◌+ℤ◌, +ℤ_assoc, +ℤ_comm}
use lib.ListN.{length, get_or, drop}
use lib.Signed.{lt_z}
use Rattle.best_path.proofs.Order.{AtMost, lt_z_total, at_most_sum, at_most_neg}
use Rattle.best_path.proofs.Words.{append_inputs, one_input}
use Rattle.trellis.specs.declared.ConvCode.{ConvCode}
use Rattle.trellis.specs.Codeword.{coded0, coded1, sent_by, steps_of, zero_tailed, codeword}
use Rattle.trellis.specs.Keep.{Keep, keeps0, keeps1, only_if, kept_of, kept_through}
use Rattle.trellis.specs.Register.{coded_bit}
use Rattle.trellis.proofs.States.{Inputs}
use Rattle.best_word.specs.Claim.{agreement, Towards}
use Rattle.best_word.proofs.Score.{signed_by, agreement_cons}

-- ---- what is sent is bits

only_bits : (kept : Bool) (c : ℕ) → c < 2 → Inputs (only_if kept c)
only_bits true c h = one_input c h
only_bits false c h = λ i. lit< tt

sent_bits : (code : ConvCode) (p : Keep) (inputs : List ℕ) (t : ℕ) → Inputs (sent_by code p inputs t)
unfolding sent_by kept_through kept_of coded0 coded1 coded_bit
sent_bits code p inputs zero = λ i. lit< tt
sent_bits code p inputs (suc t) =
    let first = only_if (keeps0 p t) (coded0 code inputs t) in
    let second = only_if (keeps1 p t) (coded1 code inputs t) in
    append_inputs (sent_by code p inputs t) (first ++ second) (sent_bits code p inputs t)
    (append_inputs first second (only_bits (keeps0 p t) _ (mod-lt _ (lit< tt))) (only_bits (keeps1 p t) _ (mod-lt _ (lit< tt))))

pub codeword_bits : (code : ConvCode) (p : Keep) (u : List ℕ) → Inputs (codeword code p u)
unfolding codeword
codeword_bits code p u = sent_bits code p (zero_tailed code u) (steps_of code (length u))

-- ---- one place, and all places

-- Where the bits are the same both scores change alike; where they differ the one does not fall and the other does not rise.
place_towards :
    (u v : ℕ) (z m : ℤ) → v < 2 → (v ≡ 0 → lt_z m z ≡ false) → (v ≡ 1 → lt_z z m ≡ false) →
    AtMost (signed_by u m +ℤ signed_by v z) (signed_by u z +ℤ signed_by v m)
place_towards u zero z m h at_zero at_one = go (eqb u 0)
  where
    up : AtMost z m
    up = lt_z_total m z (at_zero refl)

    go : (b : Bool) → AtMost (cond b m (neg_ℤ m) +ℤ z) (cond b z (neg_ℤ z) +ℤ m)
    go true = inr (+ℤ_comm m z)
    go false = at_most_sum (neg_ℤ m) (neg_ℤ z) z m (at_most_neg z m up) up
place_towards u (suc zero) z m h at_zero at_one = go (eqb u 0)
  where
    down : AtMost m z
    down = lt_z_total z m (at_one refl)

    go : (b : Bool) → AtMost (cond b m (neg_ℤ m) +ℤ neg_ℤ z) (cond b z (neg_ℤ z) +ℤ neg_ℤ m)
    go true = at_most_sum m z (neg_ℤ z) (neg_ℤ m) down (at_most_neg m z down)
    go false = inr (+ℤ_comm (neg_ℤ m) (neg_ℤ z))
place_towards u (suc (suc v)) z m h at_zero at_one = absurd (omega arith)

get_d_behind : (zs : List ℤ) (i : ℕ) → get_or (drop 1 zs) i (pos 0) ≡ get_or zs (suc i) (pos 0)
get_d_behind [] i = refl
get_d_behind (z ∷ zs) i = refl

towards_behind : (v : ℕ) (vs : List ℕ) (zs moved : List ℤ) → Towards (v ∷ vs) zs moved → Towards vs (drop 1 zs) (drop 1 moved)
towards_behind v vs zs moved near =
    record {
      at_zero = λ i h e. rw (get_d_behind zs i, get_d_behind moved i) (near.at_zero (suc i) (omega arith) e);
      at_one = λ i h e. rw (get_d_behind zs i, get_d_behind moved i) (near.at_one (suc i) (omega arith) e);
    }

swapped : (a b c d : ℤ) → a +ℤ b +ℤ (c +ℤ d) ≡ a +ℤ c +ℤ (b +ℤ d)
swapped a b c d =
    +ℤ_assoc a b (c +ℤ d)
    ∙ ap (λ (s : ℤ). a +ℤ s) (sym (+ℤ_assoc b c d) ∙ ap (λ (s : ℤ). s +ℤ d) (+ℤ_comm b c) ∙ +ℤ_assoc c b d)
    ∙ sym (+ℤ_assoc a c (b +ℤ d))

pub agreement_towards :
    (us vs : List ℕ) (zs moved : List ℤ) → length us ≡ length vs → Inputs vs → Towards vs zs moved →
    AtMost (agreement us moved +ℤ agreement vs zs) (agreement us zs +ℤ agreement vs moved)
unfolding agreement
agreement_towards [] [] zs moved e are near = inr refl
agreement_towards [] (v ∷ vs) zs moved e are near = absurd (omega arith)
agreement_towards (u ∷ us) [] zs moved e are near = absurd (omega arith)
agreement_towards (u ∷ us) (v ∷ vs) zs moved e are near =
    let z = get_or zs 0 (pos 0) in
    let m = get_or moved 0 (pos 0) in
    let here = place_towards u v z m (are 0) (near.at_zero 0 (omega arith)) (near.at_one 0 (omega arith)) in
    let behind = agreement_towards us vs (drop 1 zs) (drop 1 moved) (omega arith) (λ i. are (suc i)) (towards_behind v vs zs moved near) in
    rw (
      agreement_cons u us moved,
      agreement_cons v vs zs,
      agreement_cons u us zs,
      agreement_cons v vs moved,
      swapped (signed_by u m),
      swapped (signed_by u z),
    ) (at_most_sum _ _ _ _ here behind)
