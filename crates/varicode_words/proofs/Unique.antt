-- Of each entry, any two outcomes that its contract allows are equal. `Post` is the contract: of what the call is given, what it returns,
-- and what it leaves in each argument. Assumes nothing.
use mathlib.Core.Path.{◌≡◌, ap₂, sym, ◌∙◌}
use Prim.Native.Nat.{ℕ}
use Rattle.std.specs.Prelude.{Option, Some, None}
use Rattle.varicode_words.specs.declared.Word.{Word}
use Rattle.varicode_words.specs.Word.{letter_said}
use Rattle.varicode_words.proofs.varicode_encode.Reads as varicode_encode
use Rattle.varicode_words.proofs.varicode_decode.Reads as varicode_decode

abbrev made : ℕ → ℕ → Word
made b n = record { bits = b; len = n }

pub varicode_encode-determined :
    (κs : _) (given : _) (r r' : Word) (left left' : _) →
    varicode_encode.Post κs given r left → varicode_encode.Post κs given r' left' → r ≡ r'
varicode_encode-determined κs given r r' left left' p q = ap₂ made (p.bits ∙ sym q.bits) (p.len ∙ sym q.len)

-- an answer is fixed by what is said of it
pub letter_told : (a b : Option ℕ) → letter_said a ≡ letter_said b → a ≡ b
letter_told (Some m) (Some n) e = cc
letter_told (Some m) None e = cc
letter_told None (Some n) e = cc
letter_told None None e = cc

pub varicode_decode-determined :
    (κs : _) (given : _) (r r' : Option ℕ) (left left' : _) →
    varicode_decode.Post κs given r left → varicode_decode.Post κs given r' left' → r ≡ r'
varicode_decode-determined κs given r r' left left' p q = letter_told r r' (p ∙ sym q)
