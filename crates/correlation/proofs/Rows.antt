-- The way back over the rows that all steps leave: it can be walked from any state, and from state 0 it spells the word.
-- Assumes nothing.
use mathlib.Core.List.{List, ◌++◌}
use mathlib.Core.Path.{◌≡◌, refl, ap, ◌∙◌}
use Prim.Native.Nat.{ℕ, ◌-◌, ◌*◌, ◌<◌}
use native.Mathlib.Omega.{arith}
use lib.ListN.{length, take, drop}
use lib.Pow.{pow_pos}
use Rattle.best_path.specs.Rows.{spelled, Traceable}
use Rattle.best_path.specs.Run.{traced}
use Rattle.best_path.proofs.Rows.{StateRows, left_traceable, left_way_back}
use Rattle.trellis.specs.declared.ConvCode.{ConvCode}
use Rattle.trellis.specs.declared.KeepPattern.{KeepPattern}
use Rattle.trellis.specs.Choice.{keep_of}
use Rattle.trellis.specs.Codeword.{steps_of}
use Rattle.trellis.specs.Keep.{Keep}
use Rattle.trellis.specs.Inner.{Halved}
use Rattle.correlation.specs.Arithmetic.{Kind}
use Rattle.correlation.specs.Decode.{froms, word, score}
use Rattle.correlation.specs.Inner.{Runnable, Runs, Decodable, Finds}
use Rattle.correlation.proofs.Steps.{filled_by}

-- there is a state 0, and a state 1
pub some_states : {code : ConvCode} {half : ℕ} → Halved code half → 1 < 2 * half
some_states {code} shape = omega (arith, pow_pos (code.width - 1), shape.halved)

-- what a decoding is given has room for its steps
pub decodable_runnable :
    {code : ConvCode} {half : ℕ} {keep : KeepPattern} {info : ℕ} {out scratch : List ℕ} →
    Decodable code half keep info out scratch → Runnable code half keep (steps_of code info) scratch
decodable_runnable ready =
    record {
      shape = ready.shape;
      compiled = ready.compiled;
      pattern = ready.pattern;
      few = omega (arith, ready.few, ready.shape.held.narrow);
      room = ready.rows;
    }

-- what a decoding is given, and what its steps leave
module _
    {A M : Type 0} {kind : Kind A M} {code : ConvCode} {half : ℕ} {keep : KeepPattern} {info : ℕ} {out scratch : List ℕ}
    (ready : Decodable code half keep info out scratch) {readings : List A} {r : M} {left : List ℕ}
    (ran : Runs kind code (keep_of keep) (2 * half) (steps_of code info) readings r (record { given = scratch; left = left })) where
  abbrev p : Keep
  p = keep_of keep

  abbrev steps : ℕ
  steps = steps_of code info

  abbrev shape : Halved code half
  shape = ready.shape

  abbrev rows : StateRows (2 * half) (froms kind code p readings)
  rows = filled_by shape kind p readings

  pub way_walkable : {last : ℕ} → last < 2 * half → Traceable code half left steps last info (length out)
  way_walkable {last} state =
      left_traceable rows code half steps left _ refl shape.halved shape.few ran.survivors last info (length out)
      state (omega arith) ready.room

  -- from state 0 the rows spell what the definition's survivors do
  spells :
      (s : ℕ) → 0 ≡ s →
      spelled code half left steps 0 info ≡ take info (traced kind.op code (froms kind code p readings) steps s)
  spells s same =
      ap (take info)
      (left_way_back rows code half steps left _ refl shape.halved shape.few ran.survivors kind.op 0
      ∙ ap (traced kind.op code (froms kind code p readings) steps) same)

  word_spelled : spelled code half left steps 0 info ≡ word kind code p readings info
  unfolding word
  word_spelled = spells _ (omega arith)

  -- so where the way back from state 0 is written to the output, word, score and survivors are found
  pub way_finds :
      {new : List ℕ} → new ≡ spelled code half left steps 0 info ++ drop info out →
      Finds kind code p (2 * half) info readings r (record { given = out; left = new }) (record { given = scratch; left = left })
  unfolding score
  way_finds e =
      record {
        scored = ran.last;
        output = e ∙ ap (λ (l : List ℕ). l ++ drop info out) word_spelled;
        survivors = ran.survivors;
      }
