-- Of each entry, any two outcomes that its contract allows are equal. `Post` is the contract: of what the call is given, what it returns,
-- and what it leaves in each argument. Assumes nothing.
use mathlib.Core.Bool.{Bool}
use mathlib.Core.Path.{◌≡◌, sym, ◌∙◌}
use Prim.Native.Nat.{ℕ}
use lib.Ieee.{Float}
use Rattle.f32s.proofs.is_finite.Reads as is_finite
use Rattle.f32s.proofs.within.Reads as within
use Rattle.f32s.proofs.from_bytes.Reads as from_bytes
use Rattle.f32s.proofs.Readings.len.Reads as len
use Rattle.f32s.proofs.Readings.is_finite_at.Reads as is_finite_at
use Rattle.f32s.proofs.Readings.finite_at.Reads as finite_at
use Rattle.f32s.proofs.from_all_bytes.Reads as from_all_bytes
use Rattle.f32s.proofs.bits_of.Reads as bits_of

pub is_finite-determined :
    (κs : _) (given : _) (r r' : Bool) (left left' : _) → is_finite.Post κs given r left → is_finite.Post κs given r' left' → r ≡ r'
is_finite-determined κs given r r' left left' p q = p ∙ sym q

pub within_determined :
    (κs : _) (given : _) (r r' : Bool) (left left' : _) → within.Post κs given r left → within.Post κs given r' left' → r ≡ r'
within_determined κs given r r' left left' p q = p ∙ sym q

pub from_bytes-determined :
    (κs : _) (given : _) (r r' : Float) (left left' : _) → from_bytes.Post κs given r left → from_bytes.Post κs given r' left' → r ≡ r'
from_bytes-determined κs given r r' left left' p q = p ∙ sym q

pub len_determined :
    (κs : _) (given : _) (r r' : ℕ) (left left' : _) → len.Post κs given r left → len.Post κs given r' left' → r ≡ r'
len_determined κs given r r' left left' p q = p ∙ sym q

pub is_finite_at-determined :
    (κs : _) (given : _) (r r' : Bool) (left left' : _) →
    is_finite_at.Post κs given r left → is_finite_at.Post κs given r' left' → r ≡ r'
is_finite_at-determined κs given r r' left left' p q = p ∙ sym q

pub finite_at-determined :
    (κs : _) (given : _) (r r' : Float) (left left' : _) →
    finite_at.Post κs given r left → finite_at.Post κs given r' left' → r ≡ r'
finite_at-determined κs given r r' left left' p q = p ∙ sym q

pub from_all_bytes-determined :
    (κs : _) (given : _) (r r' : ℕ) (left left' : _) → from_all_bytes.Post κs given r left → from_all_bytes.Post κs given r' left' →
    (r ≡ r') × (left.1.0.now ≡ left'.1.0.now)
from_all_bytes-determined κs given r r' left left' p q = (cc, cc)

pub bits_of-determined :
    (κs : _) (given : _) (r r' : ℕ) (left left' : _) → bits_of.Post κs given r left → bits_of.Post κs given r' left' → r ≡ r'
bits_of-determined κs given r r' left left' p q = p ∙ sym q
