-- A line of the sheet, tested: what is computed for it and what the sheet says, number by number. A line that passes holds.
-- Assumes nothing.
use mathlib.Core.Bool.{true, false}
use mathlib.Core.List.{List, [], ◌∷◌, map}
use mathlib.Core.Path.{◌≡◌, sym, subst}
use Prim.Native.Nat.{ℕ}
use lib.Dec.{T}
use lib.ListN.{length}
use Rattle.best_word.specs.Claim.{score_of}
use Rattle.forward.specs.Decode.{word, score}
use Rattle.trellis.specs.Choice.{code_of, pattern_of}
use Rattle.trellis.specs.Codeword.{steps_of, codeword}
use Rattle.trellis.specs.Keep.{coded_length}
use Rattle.varicode_words.proofs.Table.{same, same_equal}
use Rattle.varicode_reader.specs.Reader.{nothing_heard, letters_from}
use Rattle.varicode_writer.specs.Writer.{byte, stream_from}
use Rattle.bench_sheet.specs.Sheet.{SheetLine, coded, lengths, decodes, scores, ties, writes, reads, reads_pauses, Holds}

-- lists that the test finds the same are equal
equal : (xs ys : List ℕ) → same xs ys ≡ true → xs ≡ ys
equal xs ys e = same_equal xs ys (subst T (sym e) tt)

-- what `Holds` says, as a test that comes to true; a score is one number, and is compared as it is
abbrev pub Passes : SheetLine → Type 0
Passes (coded code rate info bits) = same (codeword (code_of code) (pattern_of code rate) info) bits ≡ true
Passes (lengths code count at_rates) =
    same (map (λ (rate : ℕ). coded_length (pattern_of code rate) (steps_of (code_of code) count)) (0 ∷ 1 ∷ 2 ∷ 3 ∷ 4 ∷ [])) at_rates ≡ true
Passes (decodes code rate heard bits) = same (word (code_of code) (pattern_of code rate) heard (length bits)) bits ≡ true
Passes (scores code rate count heard is) = score (code_of code) (pattern_of code rate) heard count ≡ is
Passes (ties code rate count whole u v) =
    score_of (code_of code) (pattern_of code rate) count u whole ≡ score_of (code_of code) (pattern_of code rate) count v whole
Passes (writes text bits) = same (stream_from true (map byte text)) bits ≡ true
Passes (reads bits text) = same (letters_from false nothing_heard bits) text ≡ true
Passes (reads_pauses bits text) = same (letters_from true nothing_heard bits) text ≡ true

pub holds : (line : SheetLine) → Passes line → Holds line
holds (coded code rate info bits) e = equal _ bits e
holds (lengths code count at_rates) e = equal _ at_rates e
holds (decodes code rate heard bits) e = equal _ bits e
holds (scores code rate count heard is) e = e
holds (ties code rate count whole u v) e = e
holds (writes text bits) e = equal _ bits e
holds (reads bits text) e = equal _ text e
holds (reads_pauses bits text) e = equal _ text e
