-- Every line of the bench sheet holds, by computing the definitions line by line. Assumes nothing.
use mathlib.Core.List.{[]}
use mathlib.Core.Path.{refl}
use Prim.Native.Nat.{ℕ}
use lib.Count.{ones}
use lib.Ieee.{of_bits, add, sub, neg, lt, le}
use lib.ListN.{get_or}
use Rattle.best_word.specs.Claim.{agreement}
use Rattle.correlation.specs.Decode.{word, score}
use Rattle.trellis.specs.Choice.{code_of, pattern_of}
use Rattle.trellis.specs.Codeword.{codeword}
use Rattle.trellis.specs.State.{next_state}
use Rattle.varicode_reader.specs.Reader.{zero_ends, letters_from}
use Rattle.varicode_writer.specs.Writer.{stream_from}
use Rattle.varicode_words.specs.Word.{word_of, bits_of, decode_of}
use Rattle.bench_sheet.specs.Sheet.{SheetLine, reads, AllHold, none, more, sheet}
use Rattle.bench_sheet.proofs.Tested.{holds}

-- the line at a place, counted from 0
abbrev line_at : ℕ → SheetLine
line_at n = get_or sheet n (reads [] [])

pub claim : AllHold sheet
unfolding agreement codeword code_of pattern_of zero_ends letters_from stream_from word score word_of decode_of bits_of ones
    next_state of_bits add sub neg lt le
claim =
    more (holds (line_at 0) refl)
    (more (holds (line_at 1) refl)
    (more (holds (line_at 2) refl)
    (more (holds (line_at 3) refl)
    (more (holds (line_at 4) refl)
    (more (holds (line_at 5) refl)
    (more (holds (line_at 6) refl)
    (more (holds (line_at 7) refl)
    (more (holds (line_at 8) refl)
    (more (holds (line_at 9) refl)
    (more (holds (line_at 10) refl)
    (more (holds (line_at 11) refl)
    (more (holds (line_at 12) refl)
    (more (holds (line_at 13) refl)
    (more (holds (line_at 14) refl)
    (more (holds (line_at 15) refl)
    (more (holds (line_at 16) refl)
    (more (holds (line_at 17) refl)
    (more (holds (line_at 18) refl)
    (more (holds (line_at 19) refl)
    (more (holds (line_at 20) refl)
    (more (holds (line_at 21) refl)
    (more (holds (line_at 22) refl)
    none))))))))))))))))))))))
