-- Readings that are whole numbers whose sizes sum to at most 2 ^ 24 are decoded without rounding: the metrics, the survivors and
-- the word are those of the decoder in whole numbers, and the score is the f32 of its total at state 0, bit for bit. Assumes
-- nothing.
use mathlib.Core.Bool.{Bool, true, false, not, cond}
use mathlib.Core.List.{List, [], ◌∷◌, ◌++◌}
use mathlib.Core.Path.{◌≡◌, refl, sym, ap, ap₂, subst, ◌∙◌}
use Prim.Native.Nat.{ℕ, zero, suc, ◌+◌, ◌^◌, ◌≤◌, ◌<◌}
use native.Mathlib.Decide.{dec_lt}
use native.Mathlib.Nat.{le_refl, add-zero}
use native.Mathlib.Numerals.{add-one}
use native.Mathlib.Omega.{arith}
use lib.Dec.{eqb}
use lib.Ieee.{Float, nan, binary32, of_bits, add, sub, neg, lt, le}
use lib.IntN.{ℤ, pos, nat_abs, ◌+ℤ◌}
use lib.ListN.{length, get_or, take}
use lib.Pow.{pow_pos}
use lib.Seq.{take-nil}
use Rattle.best_path.specs.Rows.{first_rows}
use Rattle.best_path.specs.Path.{Total, none, total, wholes, added, is_reached, larger, started_whole}
use Rattle.best_path.proofs.Simulation.{Simulates, mets_agree, survivors_agree, traced_agree}
use Rattle.best_path.proofs.Sizes.{abs-add}
use Rattle.best_path.proofs.Start.{others_marked}
use Rattle.correlation.specs.Decode as any
use Rattle.correlation.specs.Gain.{correlation, brings, read0, read1, gain}
use Rattle.correlation.specs.Whole.{whole, exactly}
use Rattle.correlation.proofs.Sizes.{signed_sum, correlation_size, gain_size}
use Rattle.correlation.proofs.Surplus.{gain_taken}
use Rattle.f32s.specs.Single.{zero32}
use Rattle.f32s.specs.Whole.{Whole, float_of}
use Rattle.f32s.proofs.Ordered.{lt_trans, lt_irrefl}
use Rattle.f32s.proofs.Wholes.{whole_zero, whole_neg, whole_of_int, whole_add, whole_sub, whole_lt, float_of-zero, of_int_add}
use Rattle.f32s.proofs.Wholes.{mark_lt_whole, whole_not_le_mark}
use Rattle.butterflies.specs.Largest.{mark, largest}
use Rattle.forward.specs.Decode.{mets, froms, word, score, filled_rows}
use Rattle.forward.specs.Sums.{floats, soft}
use Rattle.trellis.specs.declared.ConvCode.{ConvCode}
use Rattle.trellis.specs.Codeword.{steps_of}
use Rattle.trellis.specs.Keep.{Keep, Pattern, keeps0, keeps1, coded_length}
use Rattle.trellis.specs.Places.{value_of, filled, place0, place1}
use Rattle.trellis.specs.State.{window, parity_of}
use Rattle.trellis.proofs.Kept.{one, coded_suc, coded_mono}
use Rattle.trellis.proofs.Places.{reading_received, reading_missing, reading_value}
use Rattle.best_word.specs.Wholes.{WholeReadings, abs_sum, IsTotal}

-- ---- sizes

-- one number more; past the end it is 0
abs-take_suc : (zs : List ℤ) (n : ℕ) → abs_sum (take (suc n) zs) ≡ abs_sum (take n zs) + nat_abs (get_or zs n (pos 0))
unfolding abs_sum
abs-take_suc [] n = rw (take-nil n)
abs-take_suc (z ∷ zs) zero = omega arith
abs-take_suc (z ∷ zs) (suc n) = omega (arith, abs-take_suc zs n)

abs-take_le : (zs : List ℤ) (n : ℕ) → abs_sum (take n zs) ≤ abs_sum zs
unfolding abs_sum
abs-take_le zs zero = omega arith
abs-take_le [] (suc n) = omega arith
abs-take_le (z ∷ zs) (suc n) = omega (arith, abs-take_le zs n)

-- what a place reads
abbrev pub read_of : Bool → List ℤ → ℕ → ℤ
read_of kept zs n = value_of (pos 0) (filled kept zs n)

abs-take_kept :
    (kept : Bool) (zs : List ℤ) (n : ℕ) → abs_sum (take (n + one kept) zs) ≡ abs_sum (take n zs) + nat_abs (read_of kept zs n)
abs-take_kept true zs n = rw (add-one n, reading_value (pos 0) zs n) (abs-take_suc zs n)
abs-take_kept false zs n = simp add-zero

-- the sum of the sizes of what the first t steps read
abbrev size_read : Keep → List ℤ → ℕ → ℕ
size_read p zs t = abs_sum (take (coded_length p t) zs)

-- each kept place reads a number of its own
size_read-suc :
    (p : Keep) → Pattern p → (zs : List ℤ) (t : ℕ) →
    size_read p zs (suc t) ≡ size_read p zs t + (nat_abs (read0 whole p zs t) + nat_abs (read1 whole p zs t))
unfolding place0 place1
size_read-suc p good zs t =
    let first = abs-take_kept (keeps0 p t) zs (coded_length p t) in
    let second = abs-take_kept (keeps1 p t) zs (coded_length p t + one (keeps0 p t)) in
    let counted : coded_length p (suc t) ≡ coded_length p t + one (keeps0 p t) + one (keeps1 p t) =
    omega (arith, coded_suc p good t) in
    ap (λ (n : ℕ). abs_sum (take n zs)) counted ∙ omega arith

-- ---- what a branch brings

filled_whole :
    {readings : List Float} {zs : List ℤ} → WholeReadings readings zs → (kept : Bool) (n : ℕ) →
    Whole (value_of zero32 (filled kept readings n)) (read_of kept zs n)
filled_whole are false n = whole_zero
filled_whole {readings} {zs} are true n =
    elim (dec_lt n (length zs)) [
      | yes h ↦
          rw (reading_received nan readings n (omega (arith, are.sized)), reading_received (pos 0) zs n h) (are.each n h)
      | no h ↦ rw (reading_missing readings n (omega (arith, are.sized)), reading_missing zs n (omega arith)) whole_zero
    ]

correlation_whole :
    {x y : Float} {a b : ℤ} → Whole x a → Whole y b → nat_abs a + nat_abs b ≤ 2 ^ 24 → (c0 c1 : ℕ) →
    Whole (correlation floats x y c0 c1) (correlation whole a b c0 c1)
unfolding correlation
correlation_whole {x} {y} {a} {b} v w small c0 c1 = go (eqb c0 0) (eqb c1 0) (correlation_size a b c0 c1)
  where
    go :
        (p q : Bool) → nat_abs (signed_sum p q a b) ≤ nat_abs a + nat_abs b →
        Whole (cond p (cond q (add binary32 x y) (sub binary32 x y)) (cond q (add binary32 (neg x) y) (sub binary32 (neg x) y)))
        (signed_sum p q a b)
    go true true h = whole_add binary32 v w (omega arith)
    go true false h = whole_sub binary32 v w (omega arith)
    go false true h = whole_add binary32 (whole_neg v) w (omega arith)
    go false false h = whole_sub binary32 (whole_neg v) w (omega arith)

-- ---- which metrics belong together

mark_le_mark : le mark mark ≡ true
unfolding le of_bits
mark_le_mark = refl

whole_not_lt_mark : {x : Float} {z : ℤ} → Whole x z → nat_abs z ≤ 2 ^ 24 → lt x mark ≡ false
whole_not_lt_mark {x} w small = go (lt x mark) refl
  where
    go : (u : Bool) → lt x mark ≡ u → u ≡ false
    go true h = sym (lt_trans mark x mark (mark_lt_whole w small) h) ∙ lt_irrefl mark
    go false h = refl

-- the f32 of a number within the bound is that number
total_whole : {bound : ℕ} {x : Float} {z : ℤ} → bound ≤ 2 ^ 24 → (x ≡ float_of z) × (nat_abs z ≤ bound) → Whole x z
total_whole {bound} {x} {z} small h = rw h.0 (whole_of_int binary32 z (omega (arith, h.1)))

total_started :
    (code : ConvCode) (bound s : ℕ) → s < 2 ^ code.width →
    IsTotal bound (get_or (any.started soft code) s mark) (get_or (started_whole code) s none)
total_started code bound zero h = (sym float_of-zero, omega arith)
total_started code bound (suc s) h =
    rw (others_marked wholes code (total (pos 0)) s) (others_marked largest code zero32 s)

total_up : (bound more : ℕ) → bound ≤ more → (x : Float) (m : Total) → IsTotal bound x m → IsTotal more x m
total_up bound more h x none k = k
total_up bound more h x (total z) k = (k.0, omega (arith, k.1))

module _ (bound : ℕ) (small : bound ≤ 2 ^ 24) where
  total_reached : (x : Float) (m : Total) → IsTotal bound x m → not (le x mark) ≡ is_reached m
  total_reached x none h = rw (h, mark_le_mark)
  total_reached x (total z) h = ap not (whole_not_le_mark (total_whole small h) (omega (arith, h.1)))

  total_better : (x y : Float) (m n : Total) → IsTotal bound x m → IsTotal bound y n → lt y x ≡ larger m n
  total_better x y none none h k = rw (h, k) (lt_irrefl mark)
  total_better x y none (total w) h k = rw h (whole_not_lt_mark (total_whole small k) (omega (arith, k.1)))
  total_better x y (total z) none h k = rw k (mark_lt_whole (total_whole small h) (omega (arith, h.1)))
  total_better x y (total z) (total w) h k = whole_lt (total_whole small k) (total_whole small h)

-- ---- the steps

module _
    (code : ConvCode) (some : 0 < code.width) (p : Keep) (good : Pattern p) (readings : List Float) (zs : List ℤ) (steps : ℕ)
    (are : WholeReadings (take (coded_length p steps) readings) zs) (small : abs_sum zs ≤ 2 ^ 24) where
  abbrev used : List Float
  used = take (coded_length p steps) readings

  abbrev c0 : ℕ → ℕ → ℕ
  c0 s i = parity_of code.g0 (window code s i)

  abbrev c1 : ℕ → ℕ → ℕ
  c1 s i = parity_of code.g1 (window code s i)

  read_small : (t : ℕ) → size_read p zs t ≤ 2 ^ 24
  read_small t = omega (arith, abs-take_le zs (coded_length p t))

  used_gain_whole : (t s i : ℕ) → Whole (gain floats code p used t s i) (gain whole code p zs t s i)
  unfolding gain brings place0 place1
  used_gain_whole t s i =
      let first = filled_whole are (keeps0 p t) (coded_length p t) in
      let second = filled_whole are (keeps1 p t) (coded_length p t + one (keeps0 p t)) in
      correlation_whole first second (omega (arith, size_read-suc p good zs t, read_small (suc t))) (c0 s i) (c1 s i)

  gain_whole : (t s i : ℕ) → t < steps → Whole (gain floats code p readings t s i) (gain whole code p zs t s i)
  gain_whole t s i h =
      subst (λ (g : ℕ → ℕ → Float). Whole (g s i) (gain whole code p zs t s i))
      (gain_taken floats code p good readings (coded_length p steps) t (coded_mono p good (suc t) steps h)) (used_gain_whole t s i)

  -- the old total is within what is read so far, so the sum is exact; and the old total is not -0, so neither is the sum
  total_added :
      (t s i : ℕ) → t < steps → (x : Float) (m : Total) → IsTotal (size_read p zs t) x m → not (le x mark) ≡ true →
      IsTotal (size_read p zs (suc t)) (add binary32 x (gain floats code p readings t s i)) (added m (gain whole code p zs t s i))
  total_added t s i within x none h reached = cc (total_reached (size_read p zs t) (read_small t) x none h)
  total_added t s i within x (total z) h reached =
      let size : nat_abs (z +ℤ gain whole code p zs t s i) ≤ size_read p zs (suc t) =
      omega (arith, h.1, abs-add z (gain whole code p zs t s i), gain_size code p zs t s i, size_read-suc p good zs t) in
      let summed : add binary32 (float_of z) (gain floats code p readings t s i) ≡ float_of (z +ℤ gain whole code p zs t s i) =
      of_int_add binary32 z (omega (arith, h.1, read_small t)) (gain_whole t s i within) in
      (ap (λ (y : Float). add binary32 y (gain floats code p readings t s i)) h.0 ∙ summed, size)

  simulated :
      Simulates largest wholes code (gain floats code p readings) (gain whole code p zs) (any.started soft code) (started_whole code)
      (λ (t : ℕ). IsTotal (size_read p zs t)) steps
  simulated =
      record {
        marks = λ t. refl;
        start = λ s h. total_started code (size_read p zs 0) s h;
        reached = λ t h x m. total_reached (size_read p zs t) (read_small t) x m;
        added = λ t s i h g k x m. total_added t s i h x m;
        better = λ t h x y m n. total_better (size_read p zs t) (read_small t) x y m n;
      }

  abbrev met_at : ℕ → ℕ → Float
  met_at t s = get_or (mets code p readings t) s mark

  abbrev total_at : ℕ → ℕ → Total
  total_at t s = get_or (any.mets exactly code p zs t) s none

  pub mets_whole : (t s : ℕ) → t ≤ steps → s < 2 ^ code.width → IsTotal (abs_sum zs) (met_at t s) (total_at t s)
  unfolding any.mets
  mets_whole t s within h =
      total_up (size_read p zs t) (abs_sum zs) (abs-take_le zs (coded_length p t)) (met_at t s) (total_at t s)
      (mets_agree some simulated t s within h)

  pub froms_whole : (t : ℕ) → t < steps → froms code p readings t ≡ any.froms exactly code p zs t
  unfolding any.froms
  froms_whole t h = survivors_agree some simulated t h

-- ---- the answer

module _
    (code : ConvCode) (some : 0 < code.width) (p : Keep) (good : Pattern p) (readings : List Float) (zs : List ℤ) (info : ℕ)
    (are : WholeReadings (take (coded_length p (steps_of code info)) readings) zs) (small : abs_sum zs ≤ 2 ^ 24) where
  abbrev steps : ℕ
  steps = steps_of code info

  pub word_whole : word code p readings info ≡ any.word exactly code p zs info
  unfolding any.word any.froms
  word_whole =
      ap (take info) (traced_agree some (simulated code some p good readings zs steps are small) steps 0 (le_refl steps))

  -- row by row
  rows_up_to : (t : ℕ) → t ≤ steps → filled_rows code p readings t ≡ any.filled_rows exactly code p zs t
  unfolding first_rows
  rows_up_to zero h = refl
  rows_up_to (suc t) h =
      ap₂ ◌++◌ (rows_up_to t (omega arith)) (froms_whole code some p good readings zs steps are small t h)

  pub rows_whole : filled_rows code p readings (steps_of code info) ≡ any.filled_rows exactly code p zs (steps_of code info)
  rows_whole = rows_up_to steps (le_refl steps)

  pub score_whole :
      (z : ℤ) → get_or (any.mets exactly code p zs (steps_of code info)) 0 none ≡ total z → score code p readings info ≡ float_of z
  unfolding any.score
  score_whole z e =
      let last = mets_whole code some p good readings zs steps are small steps 0 (le_refl steps) (pow_pos code.width) in
      (subst (IsTotal (abs_sum zs) (get_or (mets code p readings steps) 0 mark)) e last).0
