-- On numbers from −127 to 127 the run in f32 is the run in whole numbers, for any code and keep pattern: nothing is rounded.
-- Assumes nothing.
use mathlib.Core.List.{List, [], ◌∷◌, map}
use mathlib.Core.Path.{◌≡◌, refl, ap, ◌∙◌}
use Prim.Native.Nat.{ℕ, zero, suc, ◌*◌, ◌^◌, ◌≤◌, ◌<◌}
use native.Mathlib.Nat.{le_refl}
use native.Mathlib.Omega.{arith}
use lib.Ieee.{nan, binary32}
use lib.IntN.{ℤ, pos, nat_abs}
use lib.ListN.{length, get_or, take, length-map, length-take, get_or-map}
use Rattle.best_path.specs.Path.{Total}
use Rattle.best_path.proofs.Survivors.{any-default}
use Rattle.best_word.specs.Claim.{Exact}
use Rattle.best_word.specs.Wholes.{WholeReadings, abs_sum}
use Rattle.best_word.proofs.WholeRun.{word_whole, rows_whole, score_whole}
use Rattle.correlation.specs.Decode as any
use Rattle.correlation.specs.Whole.{exactly}
use Rattle.correlation.proofs.Surplus.{word_taken, score_taken, rows_taken}
use Rattle.f32s.specs.Whole.{float_of}
use Rattle.f32s.proofs.Wholes.{whole_of_int}
use Rattle.forward.specs.Decode.{word, filled_rows, score}
use Rattle.signed_readings.specs.Said as signed
use Rattle.signed_readings.proofs.Score.{score_counts}
use Rattle.trellis.specs.declared.ConvCode.{ConvCode}
use Rattle.trellis.specs.Codeword.{steps_of}
use Rattle.trellis.specs.Keep.{Keep, Pattern, coded_length}
use Rattle.agreement.specs.Agree.{floats_of}

pub take-map : {A B : Type 0} (f : A → B) (n : ℕ) (list : List A) → take n (map f list) ≡ map f (take n list)
take-map f zero list = refl
take-map f (suc n) [] = refl
take-map {A} {B} f (suc n) (x ∷ xs) = ap (λ (l : List B). f x ∷ l) (take-map f n xs)

-- ---- numbers from −127 to 127

abbrev pub Small : List ℤ → Type 0
Small zs = (i : ℕ) → i < length zs → nat_abs (get_or zs i (pos 0)) ≤ 127

floats_whole : (zs : List ℤ) → Small zs → WholeReadings (floats_of zs) zs
floats_whole zs small =
    record {
      sized = length-map zs float_of;
      each = λ i h.
          rw (
            any-default (floats_of zs) i nan (float_of (pos 0)) (omega (arith, h, length-map zs float_of)),
            get_or-map float_of zs i (pos 0),
          )
          (whole_of_int binary32 (get_or zs i (pos 0)) (omega (arith, small i h)));
    }

sum_small : (zs : List ℤ) → Small zs → abs_sum zs ≤ 127 * length zs
unfolding abs_sum
sum_small [] small = omega arith
sum_small (z ∷ zs) small = omega (arith, small 0 (omega arith), sum_small zs (λ i h. small (suc i) (omega arith)))

-- ---- the runs

module _ (code : ConvCode) (some : 0 < code.width) (p : Keep) (good : Pattern p) (info : ℕ) (zs : List ℤ) where
  abbrev coded : ℕ
  coded = coded_length p (steps_of code info)

  abbrev used : List ℤ
  used = take coded zs

  module _ (small : Small used) (few : 127 * coded ≤ 2 ^ 24) where
    exact : Exact code p info (floats_of zs) used
    exact =
        record {
          whole = rw (take-map float_of coded zs) (floats_whole used small);
          small = omega (arith, few, sum_small used small, length-take coded zs);
        }

    pub words_agree : word code p (floats_of zs) info ≡ any.word exactly code p zs info
    words_agree =
        word_whole code some p good (floats_of zs) used info exact.whole exact.small
        ∙ word_taken exactly code p good zs coded info (le_refl coded)

    pub rows_agree :
        filled_rows code p (floats_of zs) (steps_of code info) ≡ any.filled_rows exactly code p zs (steps_of code info)
    rows_agree =
        rows_whole code some p good (floats_of zs) used info exact.whole exact.small
        ∙ rows_taken exactly code p good zs coded (steps_of code info) (le_refl coded)

    score_of-used : score code p (floats_of zs) info ≡ float_of (signed.score code p used info)
    unfolding any.score
    score_of-used =
        score_whole code some p good (floats_of zs) used info exact.whole exact.small _
        (score_counts code some p used info)

    pub scores_agree : score code p (floats_of zs) info ≡ float_of (signed.score code p zs info)
    scores_agree =
        score_of-used
        ∙ ap (λ (m : Total). float_of (signed.count_of m)) (score_taken exactly code p good zs coded info (le_refl coded))
