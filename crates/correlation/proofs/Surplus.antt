-- Surplus readings have no part in a decoding: cut off behind those that the steps read, the readings give the same metrics,
-- survivors, word and score. Assumes nothing.
use mathlib.Core.List.{List, ◌++◌, map}
use mathlib.Core.Path.{◌≡◌, refl, ap, ap₂}
use Prim.Native.Nat.{ℕ, zero, suc, ◌≤◌}
use native.Mathlib.Omega.{arith}
use lib.ListN.{get_or, take}
use Rattle.best_path.specs.Rows.{first_rows}
use Rattle.best_path.specs.Step.{Cell}
use Rattle.best_path.specs.Run.{step_from, mets_after, survivors}
use Rattle.best_path.proofs.Simulation.{traced_same}
use Rattle.trellis.specs.declared.ConvCode.{ConvCode}
use Rattle.trellis.specs.Codeword.{steps_of}
use Rattle.trellis.specs.Keep.{Keep, Pattern, coded_length}
use Rattle.trellis.proofs.Kept.{coded_suc, coded_mono}
use Rattle.trellis.proofs.Places.{place0_taken, place1_taken}
use Rattle.correlation.specs.Arithmetic.{Arithmetic, Kind}
use Rattle.correlation.specs.Gain.{gain}
use Rattle.correlation.specs.Decode.{mets, froms, word, score, filled_rows}

-- a step reads no further than the coded length of the steps up to it
pub gain_taken :
    {A : Type 0} (on : Arithmetic A) (code : ConvCode) (p : Keep) → Pattern p → (readings : List A) (n t : ℕ) →
    coded_length p (suc t) ≤ n → gain on code p (take n readings) t ≡ gain on code p readings t
unfolding gain
gain_taken on code p good readings n t h = rw (place0_taken p good readings n t h, place1_taken p good readings n t h)

module _ {A M : Type 0} (kind : Kind A M) (code : ConvCode) (p : Keep) (good : Pattern p) (readings : List A) (n : ℕ) where
  earlier : (t : ℕ) → coded_length p (suc t) ≤ n → coded_length p t ≤ n
  earlier t h = omega (arith, coded_suc p good t)

  -- a step from the same metrics is the same
  cells_taken :
      (t : ℕ) → coded_length p (suc t) ≤ n → mets kind code p (take n readings) t ≡ mets kind code p readings t →
      step_from kind.op code (mets kind code p (take n readings) t) (gain kind.on code p (take n readings) t)
      ≡ step_from kind.op code (mets kind code p readings t) (gain kind.on code p readings t)
  cells_taken t h same = ap₂ (step_from kind.op code) same (gain_taken kind.on code p good readings n t h)

  mets_taken : (t : ℕ) → coded_length p t ≤ n → mets kind code p (take n readings) t ≡ mets kind code p readings t
  unfolding mets mets_after
  mets_taken zero h = refl
  mets_taken (suc t) h = ap (map (λ (c : Cell M). c.met)) (cells_taken t h (mets_taken t (earlier t h)))

  froms_taken : (t : ℕ) → coded_length p (suc t) ≤ n → froms kind code p (take n readings) t ≡ froms kind code p readings t
  unfolding froms survivors mets
  froms_taken t h = ap (map (λ (c : Cell M). c.from)) (cells_taken t h (mets_taken t (earlier t h)))

  pub rows_taken : (t : ℕ) → coded_length p t ≤ n → filled_rows kind code p (take n readings) t ≡ filled_rows kind code p readings t
  unfolding first_rows
  rows_taken zero h = refl
  rows_taken (suc t) h = ap₂ ◌++◌ (rows_taken t (earlier t h)) (froms_taken t h)

  module _ (info : ℕ) (enough : coded_length p (steps_of code info) ≤ n) where
    pub word_taken : word kind code p (take n readings) info ≡ word kind code p readings info
    unfolding word
    word_taken =
        ap (take info)
        (traced_same kind.op kind.op code (froms kind code p (take n readings)) (froms kind code p readings)
        (steps_of code info) 0 (λ t h. froms_taken t (omega (arith, coded_mono p good (suc t) (steps_of code info) h))))

    pub score_taken : score kind code p (take n readings) info ≡ score kind code p readings info
    unfolding score
    score_taken = ap (λ (m : List M). get_or m 0 kind.op.mark) (mets_taken (steps_of code info) enough)
