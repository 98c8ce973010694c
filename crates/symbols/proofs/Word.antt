-- The way back over the rows that all symbols leave: it can be walked from the first least state, and spells the word. Assumes
-- nothing.
use mathlib.Core.List.{List, ◌++◌}
use mathlib.Core.Path.{◌≡◌, refl, ap, ◌∙◌}
use Prim.Native.Nat.{ℕ, ◌*◌, ◌^◌, ◌<◌}
use native.Mathlib.Omega.{arith}
use lib.Dec.{lit<}
use lib.Ieee.{Float}
use lib.ListN.{length, take, drop}
use lib.Seq.{take_all}
use Rattle.best_path.specs.Path.{wholes}
use Rattle.best_path.specs.Rows.{row_of, Traceable}
use Rattle.best_path.specs.Run.{traced}
use Rattle.best_path.proofs.Rows.{StateRows, length-traced, left_traceable, left_way_back}
use Rattle.trellis.specs.declared.ConvCode.{ConvCode}
use Rattle.trellis.specs.Inner.{Halved}
use Rattle.butterflies.specs.Smallest.{smallest}
use Rattle.symbols.specs.Decode.{mets, froms, word}
use Rattle.symbols.specs.Inner.{half, Runs, Decodable, Finds}
use Rattle.symbols.proofs.Least.{least_below}
use Rattle.symbols.proofs.Steps.{two_halves, filled_by}

-- what a decoding is given, and what its symbols leave
module _
    {code : ConvCode} {soft : List Float} {count : ℕ} {out scratch : List ℕ}
    (ready : Decodable code soft count out scratch) {last : ℕ} {left : List ℕ}
    (ran : Runs code soft count last (record { given = scratch; left = left })) where
  abbrev shape : Halved code half
  shape = ready.ready.shape

  abbrev rows : StateRows (2 * half) (froms code soft)
  rows = filled_by shape soft

  -- the way back as the rows have it
  abbrev way : List ℕ
  way = traced wholes code (row_of (2 * half) left) count last

  is_state : last < 2 * half
  is_state =
      let two = two_halves shape soft in
      omega (arith, ran.last, least_below (mets code soft count) (2 ^ code.width) (2 * half) (lit< tt) (omega (arith, two)))

  pub way_walkable : Traceable code half left count last count (length out)
  way_walkable =
      left_traceable rows code half count left _ refl shape.halved shape.few ran.survivors last count (length out)
      is_state (omega arith) ready.room

  spelled : take count way ≡ word code soft count
  unfolding word
  spelled =
      take_all count way (omega (arith, length-traced wholes code (row_of (2 * half) left) count last))
      ∙ left_way_back rows code half count left _ refl shape.halved shape.few ran.survivors smallest last
      ∙ ap (traced smallest code (froms code soft) count) ran.last

  -- so where the way back is written to the output, word and survivors are found
  pub way_finds :
      {new : List ℕ} → new ≡ take count (traced wholes code (row_of (2 * half) left) count last) ++ drop count out →
      Finds code soft count (record { given = out; left = new }) (record { given = scratch; left = left })
  way_finds e =
      record { output = e ∙ ap (λ (l : List ℕ). l ++ drop count out) spelled; survivors = ran.survivors }
