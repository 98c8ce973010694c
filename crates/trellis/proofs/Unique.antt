-- Of each function, any two outcomes that its contract allows are equal. `Post` is the contract: of what the call is given,
-- what it returns, and what it leaves in each argument. Assumes nothing.
use mathlib.Core.List.{List, [], ◌∷◌}
use mathlib.Core.Path.{◌≡◌, refl, ap, ap₂, sym, ◌∙◌}
use Prim.Native.Nat.{ℕ, ◌<◌}
use native.Mathlib.Decide.{dec_lt}
use native.Mathlib.Omega.{arith}
use lib.ListN.{length, get_or}
use lib.Seq.{ext_get_or}
use Rattle.std.specs.Prelude.{Result, Ok, Err}
use Rattle.trellis.specs.declared.Code.{Code}
use Rattle.trellis.specs.declared.Code.TheVariants.{K5, K7, En300744}
use Rattle.trellis.specs.declared.Rate.{Rate}
use Rattle.trellis.specs.declared.Rate.TheVariants.{R1_2, R2_3, R3_4, R5_6, R7_8}
use Rattle.trellis.specs.declared.UnknownCode.{UnknownCode}
use Rattle.trellis.specs.declared.UnknownRate.{UnknownRate}
use Rattle.trellis.specs.declared.ConvCode.{ConvCode}
use Rattle.trellis.specs.declared.KeepPattern.{KeepPattern}
use Rattle.trellis.specs.declared.Pair.{Pair}
use Rattle.trellis.specs.declared.Planes.{Planes}
use Rattle.trellis.specs.declared.Selected.{Selected}
use Rattle.trellis.specs.Numbers.{code_number, rate_number, NamesCode, NamesRate}
use Rattle.trellis.specs.Inner.{Blank}
use Rattle.trellis.proofs.Even.{Filled}
use Rattle.trellis.proofs.CodeTryFromU8.try_from.Reads as code_try_from
use Rattle.trellis.proofs.RateTryFromU8.try_from.Reads as rate_try_from
use Rattle.trellis.proofs.conv_code.Reads as conv_code
use Rattle.trellis.proofs.choose.Reads as choose
use Rattle.trellis.proofs.branch_bits.Reads as branch_bits
use Rattle.trellis.proofs.sent_by_even.Reads as sent_by_even
use Rattle.trellis.proofs.next_state.Reads as next_state
use Rattle.trellis.proofs.next_column.Reads as next_column
use Rattle.trellis.proofs.coded_len.Reads as coded_len

-- no two codes have one number, and no two rates
code_back : (code : Code) → get_or (K5 ∷ K7 ∷ En300744 ∷ []) (code_number code) K5 ≡ code
code_back K5 = refl
code_back K7 = refl
code_back En300744 = refl

rate_back : (rate : Rate) → get_or (R1_2 ∷ R2_3 ∷ R3_4 ∷ R5_6 ∷ R7_8 ∷ []) (rate_number rate) R1_2 ≡ rate
rate_back R1_2 = refl
rate_back R2_3 = refl
rate_back R3_4 = refl
rate_back R5_6 = refl
rate_back R7_8 = refl

code_once : (number : ℕ) (r r' : Result Code UnknownCode) → NamesCode number r → NamesCode number r' → r ≡ r'
code_once number (Ok a) (Ok b) p q =
    let at = ap (λ (n : ℕ). get_or (K5 ∷ K7 ∷ En300744 ∷ []) n K5) (p.numbered ∙ sym q.numbered) in
    ap (λ (code : Code). Ok code) (sym (code_back a) ∙ at ∙ code_back b)
code_once number (Ok a) (Err y) p q = cc (p.known, q.unknown)
code_once number (Err x) (Ok b) p q = cc (p.unknown, q.known)
code_once number (Err x) (Err y) p q = ap (λ (n : ℕ). Err (record { number = n })) (p.named ∙ sym q.named)

rate_once : (number : ℕ) (r r' : Result Rate UnknownRate) → NamesRate number r → NamesRate number r' → r ≡ r'
rate_once number (Ok a) (Ok b) p q =
    let at = ap (λ (n : ℕ). get_or (R1_2 ∷ R2_3 ∷ R3_4 ∷ R5_6 ∷ R7_8 ∷ []) n R1_2) (p.numbered ∙ sym q.numbered) in
    ap (λ (rate : Rate). Ok rate) (sym (rate_back a) ∙ at ∙ rate_back b)
rate_once number (Ok a) (Err y) p q = cc (p.known 0, q.unknown 0)
rate_once number (Err x) (Ok b) p q = cc (p.unknown 0, q.known 0)
rate_once number (Err x) (Err y) p q = ap (λ (n : ℕ). Err (record { number = n })) (p.named ∙ sym q.named)

pub code_try_from-determined :
    (κs : _) (given : _) (r r' : Result Code UnknownCode) (left left' : _) →
    code_try_from.Post κs given r left → code_try_from.Post κs given r' left' → r ≡ r'
code_try_from-determined κs given r r' left left' p q = code_once _ r r' p q

pub rate_try_from-determined :
    (κs : _) (given : _) (r r' : Result Rate UnknownRate) (left left' : _) →
    rate_try_from.Post κs given r left → rate_try_from.Post κs given r' left' → r ≡ r'
rate_try_from-determined κs given r r' left left' p q = rate_once _ r r' p q

abbrev made : ℕ → ℕ → Pair
made c0 c1 = record { c0 = c0; c1 = c1 }

pub conv_code-determined :
    (κs : _) (given : _) (r r' : ConvCode) (left left' : _) → conv_code.Post κs given r left → conv_code.Post κs given r' left' → r ≡ r'
conv_code-determined κs given r r' left left' p q = p ∙ sym q

abbrev selected : ConvCode → KeepPattern → Selected
selected code keep = record { code = code; keep = keep }

pub choose_determined :
    (κs : _) (given : _) (r r' : Selected) (left left' : _) → choose.Post κs given r left → choose.Post κs given r' left' → r ≡ r'
choose_determined κs given r r' left left' p q = ap₂ selected (p.taps ∙ sym q.taps) (p.rows ∙ sym q.rows)

pub branch_bits-determined :
    (κs : _) (given : _) (r r' : Pair) (left left' : _) → branch_bits.Post κs given r left → branch_bits.Post κs given r' left' → r ≡ r'
branch_bits-determined κs given r r' left left' p q = ap₂ made (p.first ∙ sym q.first) (p.second ∙ sym q.second)

-- two tables that agree below n and are blank from there on
same_table :
    (n : ℕ) (value : ℕ → ℕ) (s t : List ℕ) → Filled value s n → Filled value t n → Blank n s → Blank n t → s ≡ t
same_table n value s t f g blank blank' = ext_get_or 0 s t (blank.sized ∙ sym blank'.sized) at
  where
    at : (k : ℕ) → k < length s → get_or s k 0 ≡ get_or t k 0
    at k h =
        elim (dec_lt k n) [
          | yes low ↦ f k low ∙ sym (g k low)
          | no high ↦ blank.rest k (omega arith) ∙ sym (blank'.rest k (omega arith))
        ]

abbrev planes : List ℕ → List ℕ → Planes
planes c0 c1 = record { c0 = c0; c1 = c1 }

pub sent_by_even-determined :
    (κs : _) (given : _) (r r' : Planes) (left left' : _) → sent_by_even.Post κs given r left → sent_by_even.Post κs given r' left' → r ≡ r'
sent_by_even-determined κs given r r' left left' p q =
    ap₂ planes
    (same_table _ _ _ _ p.crossed.first q.crossed.first p.rest0 q.rest0)
    (same_table _ _ _ _ p.crossed.second q.crossed.second p.rest1 q.rest1)

pub next_state-determined :
    (κs : _) (given : _) (r r' : ℕ) (left left' : _) → next_state.Post κs given r left → next_state.Post κs given r' left' → r ≡ r'
next_state-determined κs given r r' left left' p q = p ∙ sym q

pub next_column-determined :
    (κs : _) (given : _) (r r' : ℕ) (left left' : _) → next_column.Post κs given r left → next_column.Post κs given r' left' → r ≡ r'
next_column-determined κs given r r' left left' p q = p ∙ sym q

pub coded_len-determined :
    (κs : _) (given : _) (r r' : ℕ) (left left' : _) → coded_len.Post κs given r left → coded_len.Post κs given r' left' → r ≡ r'
coded_len-determined κs given r r' left left' p q = p ∙ sym q
