-- Words that end with a zero tail are those that lead back to state 0, so the way back from state 0 is the best of them. Assumes nothing.
use mathlib.Core.List.{List, ◌++◌}
use mathlib.Core.Logic.{⊎_elim}
use mathlib.Core.Path.{◌≡◌, refl, sym, ap, subst, ◌∙◌}
use Prim.Native.Nat.{ℕ, zero, suc, ◌+◌, ◌-◌, ◌*◌, ◌/◌, ◌^◌, ◌≤◌, ◌<◌}
use native.Mathlib.Nat.{add-zero, add-suc, sub-zero, sub_self, le_refl, eq-or-lt_of_le, pow-succ'}
use native.Mathlib.Omega.{arith}
use lib.Arith.{lt-one}
use lib.Dec.{lit<}
use lib.IntN.{ℤ}
use lib.ListN.{length, get_or, take, drop, replicate, length-append, length-drop, length-replicate, get_or-replicate, take-append-drop}
use lib.Pow.{pow_pos, pow_mono}
use lib.Seq.{length-take-le, ext_get_or, get_or-append-add, get_or-drop}
use Rattle.trellis.specs.declared.ConvCode.{ConvCode}
use Rattle.trellis.specs.State.{next_state, state_after}
use Rattle.trellis.specs.Codeword.{steps_of}
use Rattle.trellis.proofs.States.{Inputs, state_below}
use Rattle.best_path.specs.Run.{mets_after, survivors, traced}
use Rattle.best_path.specs.Path.{Leads, Best, Total, none, total, wholes, started_whole}
use Rattle.best_path.proofs.Words.{append_inputs, take-inputs}
use Rattle.best_path.proofs.BestPath.{not_reached, best_path}

-- ---- a zero input halves the state, and only a zero one leads below half of the states

module _ (code : ConvCode) (some : 0 < code.width) (w : List ℕ) (are : Inputs w) where
  abbrev at : ℕ → ℕ
  at = state_after code w

  zeros_halve : (t j : ℕ) → j ≤ code.width → ((i : ℕ) → i < j → get_or w (t + i) 0 ≡ 0) → at (t + j) < 2 ^ (code.width - j)
  unfolding state_after next_state
  zeros_halve t zero h zeros = rw (add-zero t, sub-zero code.width) (state_below code some w are t)
  zeros_halve t (suc j) h zeros =
      let before : at (t + j) < 2 ^ (code.width - j) = zeros_halve t j (omega arith) (λ i k. zeros i (omega arith)) in
      let twice : 2 ^ (code.width - j) ≡ 2 * 2 ^ (code.width - suc j) =
      ap (λ (n : ℕ). 2 ^ n) (omega arith) ∙ pow-succ' 2 (code.width - suc j) in
      rw (add-suc t j, zeros j (omega arith)) (omega arith)

  input_zero : (c m : ℕ) → c < 2 → m + c * 2 ^ (code.width - 1) < 2 ^ (code.width - 1) → c ≡ 0
  input_zero zero m h k = refl
  input_zero (suc zero) m h k = absurd (omega arith)
  input_zero (suc (suc c)) m h k = absurd (omega arith)

  halved_zeros : (t j i : ℕ) → i + j ≤ code.width → at (t + j) < 2 ^ i → (l : ℕ) → l < j → get_or w (t + l) 0 ≡ 0
  unfolding state_after next_state
  halved_zeros t zero i h below l k = absurd (omega arith)
  halved_zeros t (suc j) i h below l k =
      let here = rw (add-suc t j) at below in
      let bound : 2 ^ i ≤ 2 ^ (code.width - 1) = pow_mono (omega arith) in
      let last : get_or w (t + j) 0 ≡ 0 = input_zero (get_or w (t + j) 0) (at (t + j) / 2) (are (t + j)) (omega arith) in
      let before : at (t + j) < 2 ^ suc i = rw (pow-succ' 2 i) (omega arith) in
      ⊎_elim (λ e. ap (λ (n : ℕ). get_or w (t + n) 0) (omega arith) ∙ last)
      (λ m. halved_zeros t j (suc i) (omega arith) before l (omega arith))
      (eq-or-lt_of_le k)

-- ---- zero tails

zeros_inputs : (n : ℕ) → Inputs (replicate n 0)
zeros_inputs zero i = lit< tt
zeros_inputs (suc n) zero = lit< tt
zeros_inputs (suc n) (suc i) = zeros_inputs n i

module _ (code : ConvCode) (some : 0 < code.width) where
  abbrev tail : List ℕ
  tail = replicate code.width 0

  long : length tail ≡ code.width
  long = length-replicate code.width 0

  -- an info word with its tail leads back to state 0
  pub info_leads : (info : ℕ) (u : List ℕ) → length u ≡ info → Inputs u → Leads code (steps_of code info) 0 (u ++ replicate code.width 0)
  info_leads info u sized are =
      let bits = append_inputs u tail are (zeros_inputs code.width) in
      let zeros : (i : ℕ) → i < code.width → get_or (u ++ tail) (info + i) 0 ≡ 0 =
      λ i h. rw (← sized, get_or-append-add u tail i 0) (get_or-replicate code.width i 0 0 h) in
      let end = zeros_halve code some (u ++ tail) bits info code.width (le_refl code.width) zeros in
      record {
        sized = length-append u tail ∙ omega (arith, long);
        bits = bits;
        ends = lt-one (rw (sub_self code.width) at end);
      }

  -- and only such words do
  pub leads_info : (info : ℕ) (w : List ℕ) → Leads code (steps_of code info) 0 w → w ≡ take info w ++ replicate code.width 0
  leads_info info w on =
      let end : state_after code w (info + code.width) < 2 ^ 0 = rw on.ends (lit< tt) in
      let zero_at = halved_zeros code some w on.bits info code.width 0 (omega arith) end in
      let size : length (drop info w) ≡ code.width = length-drop info w ∙ omega (arith, on.sized) in
      sym (take-append-drop info w)
      ∙ ap (λ (x : List ℕ). take info w ++ x)
      (ext_get_or 0 (drop info w) tail (size ∙ sym long)
      (λ i h. let below : i < code.width = omega arith in
      get_or-drop info w i 0 ∙ zero_at i below ∙ sym (get_or-replicate code.width i 0 0 below)))

-- Of the info words of that length, v with its zero tail is the best, and gains z: the total of state 0.
pub record BestInfo (code : ConvCode) (gains : ℕ → ℕ → ℕ → ℤ) (info : ℕ) (v : List ℕ) (z : ℤ) : Type 0 where
  pub sized : length v ≡ info
  pub bits : Inputs v
  pub counted : get_or (mets_after wholes code gains (started_whole code) (steps_of code info)) 0 none ≡ total z
  pub whole : v ++ replicate code.width 0 ≡ traced wholes code (survivors wholes code gains (started_whole code)) (steps_of code info) 0
  pub best : Best code gains (steps_of code info) 0 (v ++ replicate code.width 0) z

module _ (code : ConvCode) (some : 0 < code.width) (gains : ℕ → ℕ → ℕ → ℤ) (info : ℕ) where
  abbrev steps : ℕ
  steps = steps_of code info

  abbrev last : Total
  last = get_or (mets_after wholes code gains (started_whole code) steps) 0 none

  abbrev way : List ℕ
  way = traced wholes code (survivors wholes code gains (started_whole code)) steps 0

  best_of : (z : ℤ) → last ≡ total z → BestInfo code gains info (take info way) z
  best_of z e =
      let best = best_path code some gains steps 0 z (pow_pos code.width) e in
      let tailed = leads_info code some info way best.leads in
      record {
        sized = length-take-le info way (omega (arith, best.leads.sized));
        bits = take-inputs info way best.leads.bits;
        counted = e;
        whole = sym tailed;
        best = subst (λ (w : List ℕ). Best code gains steps 0 w z) tailed best;
      }

  -- state 0 is reached, by zeros at least, and the way back from it is the best info word with its tail
  pub best_info_word :
      (z : ℤ)
      × BestInfo code gains info
      (take info (traced wholes code (survivors wholes code gains (started_whole code)) (steps_of code info) 0)) z
  best_info_word = by last refl
    where
      by : (m : Total) → last ≡ m → (z : ℤ) × BestInfo code gains info (take info way) z
      by none e =
          absurd
          (not_reached code some gains steps 0 (pow_pos code.width) e _
          (info_leads code some info (replicate info 0) (length-replicate info 0) (zeros_inputs info)))
      by (total z) e = (z, best_of z e)
