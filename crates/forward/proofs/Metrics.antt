-- No metric is a NaN, whatever the readings are: a NaN is greater than nothing, so it never replaces. And each is an f32, for
-- it was rounded to one. So the score has bits, 32 of them. Assumes nothing.
use mathlib.Core.Bool.{true, not}
use mathlib.Core.List.{List}
use mathlib.Core.Path.{◌≡◌, sym, subst}
use Prim.Native.Nat.{ℕ, ◌^◌, ◌<◌}
use lib.Dec.{T}
use lib.Ieee.{Float, nan, inf, fin, binary32, lt, is_nan, fits, of_bits, to_bits}
use lib.Ieee.Bits.{of_bits-fits, to_bits-lt}
use lib.Ieee.Fits.{add-fits}
use lib.ListN.{get_or}
use lib.Pow.{pow_pos}
use Rattle.best_path.proofs.Metrics.{metric_kept, metric_holds}
use Rattle.best_path.proofs.Start.{started_holds}
use Rattle.correlation.specs.Decode as any
use Rattle.f32s.specs.Single.{zero32}
use Rattle.trellis.specs.declared.ConvCode.{ConvCode}
use Rattle.trellis.specs.Codeword.{steps_of}
use Rattle.trellis.specs.Keep.{Keep}
use Rattle.butterflies.specs.Largest.{mark, largest}
use Rattle.forward.specs.Sums.{soft, gain}
use Rattle.forward.specs.Decode.{mets, score}

abbrev NotNan : Float → Type 0
NotNan x = T (not (is_nan x))

greater_not_nan : (x y : Float) → lt y x ≡ true → NotNan x
unfolding lt is_nan
greater_not_nan nan nan h = subst T (sym h) tt
greater_not_nan nan (inf s) h = subst T (sym h) tt
greater_not_nan nan (fin s m e) h = subst T (sym h) tt
greater_not_nan (inf s) y h = tt
greater_not_nan (fin s m e) y h = tt

mark_not_nan : NotNan mark
unfolding of_bits is_nan
mark_not_nan = tt

zero_not_nan : NotNan zero32
unfolding of_bits is_nan
zero_not_nan = tt

module _ (code : ConvCode) (some : 0 < code.width) (p : Keep) (readings : List Float) where
  pub metric_not_nan : (t s : ℕ) → s < 2 ^ code.width → NotNan (get_or (mets code p readings t) s mark)
  unfolding any.mets
  metric_not_nan =
      metric_holds largest NotNan mark_not_nan greater_not_nan code some (gain code p readings) (any.started soft code)
      (λ s h. started_holds largest code zero32 NotNan zero_not_nan mark_not_nan s)

  pub score_not_nan : (info : ℕ) → NotNan (score code p readings info)
  unfolding any.score
  score_not_nan info = metric_not_nan (steps_of code info) 0 (pow_pos code.width)

  pub metric_fits : (t s : ℕ) → s < 2 ^ code.width → T (fits binary32 (get_or (mets code p readings t) s mark))
  unfolding any.mets
  metric_fits =
      metric_kept largest code some (gain code p readings) (λ t m. T (fits binary32 m)) (λ t. of_bits-fits binary32 _)
      (λ t s i m y h r b. add-fits binary32 m (gain code p readings t s i)) (any.started soft code)
      (λ s h. started_holds largest code zero32 (λ m. T (fits binary32 m)) (of_bits-fits binary32 _) (of_bits-fits binary32 _) s)

  pub score_below : (info : ℕ) → to_bits binary32 (score code p readings info) < 2 ^ 32
  unfolding any.score
  score_below info = to_bits-lt binary32 _ (metric_fits (steps_of code info) 0 (pow_pos code.width))
