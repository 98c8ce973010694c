-- The table by value: where one test passes at every entry, each is right. Over any table. Assumes nothing.
use mathlib.Core.Bool.{Bool}
use mathlib.Core.List.{List}
use Prim.Native.Nat.{ℕ, ◌<◌}
use lib.Dec.{T}
use lib.ListN.{length, get_or}
use Rattle.varicode_words.specs.Word.{length_of, found, decode_of}
use Rattle.varicode_words.specs.Inner.{byte_in, Right}
use Rattle.varicode_words.proofs.Table.{same, same_equal, passes, passes_at}

-- what `Right` says, as a test
unfoldable pub right : ℕ → ℕ → Bool
unfolding byte_in decode_of found length_of
right value entry = same (byte_in entry) (decode_of value (length_of value))

pub entries_right :
    (entries : List ℕ) → T (passes right 0 entries) →
    (value : ℕ) → value < length entries → Right value (get_or entries value 0)
unfolding right
entries_right entries passed value inside =
    record { byte = same_equal (byte_in (get_or entries value 0)) _ (passes_at right entries passed value 0 inside) }
