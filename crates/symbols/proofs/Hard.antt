-- The phasors of hard bits, pair by pair; none is beyond ±1,024, so that the hard form is the soft form on them. Assumes nothing.
use mathlib.Core.Bool.{true}
use mathlib.Core.List.{List, [], ◌∷◌}
use mathlib.Core.Path.{◌≡◌, refl, sym, ap, ◌∙◌}
use Prim.Native.Nat.{ℕ, zero, suc, ◌+◌, ◌*◌, ◌/◌, ◌%◌, ◌≤◌, ◌<◌}
use native.Mathlib.Nat.{mod-lt}
use native.Mathlib.Omega.{arith}
use borrow.Author.Tests.{le-ltb}
use lib.Dec.{lit<}
use lib.Ieee.{Float, nan, of_bits, neg, le}
use lib.ListN.{length, get_or, take}
use lib.Seq.{take_all}
use Rattle.f32s.specs.Single.{within}
use Rattle.refusal.specs.First.{first_bad}
use Rattle.symbols.specs.Costs.{phasor_of}
use Rattle.symbols.specs.Inner.{symbol_at}
use Rattle.symbols.specs.Said.{phasors_of, symbols_in, soft_said, hard_said}
use Rattle.symbols.specs.declared.phasors.Phasor.{Phasor}

past_two : {A : Type 0} (a b : A) (l : List A) (d : A) (j k : ℕ) → k ≡ suc (suc j) → get_or (a ∷ b ∷ l) k d ≡ get_or l j d
past_two a b l d j k e = ap (λ (n : ℕ). get_or (a ∷ b ∷ l) n d) e

-- the phasor of pair i
abbrev pub phasor_at : List ℕ → ℕ → Phasor
phasor_at bits i = phasor_of (get_or bits (2 * i) 0 % 2) (get_or bits (2 * i + 1) 0 % 2)

later_phasor : (b0 b1 : ℕ) (bits : List ℕ) (i : ℕ) → phasor_at (b0 ∷ b1 ∷ bits) (suc i) ≡ phasor_at bits i
later_phasor b0 b1 bits i =
    rw (
      past_two b0 b1 bits 0 (2 * i) (2 * suc i) (omega arith),
      past_two b0 b1 bits 0 (2 * i + 1) (2 * suc i + 1) (omega arith),
    )

later_symbol : (re im : Float) (soft : List Float) (i : ℕ) → symbol_at (re ∷ im ∷ soft) (suc i) ≡ symbol_at soft i
later_symbol re im soft i =
    rw (
      past_two re im soft nan (2 * i) (2 * suc i) (omega arith),
      past_two re im soft nan (2 * i + 1) (2 * suc i + 1) (omega arith),
    )

pub pair_symbol : (bits : List ℕ) (i : ℕ) → 2 * (i + 1) ≤ length bits → phasor_at bits i ≡ symbol_at (phasors_of bits) i
unfolding phasors_of
pair_symbol [] i h = absurd (omega arith)
pair_symbol (b ∷ []) i h = absurd (omega arith)
pair_symbol (b0 ∷ b1 ∷ bits) zero h = refl
pair_symbol (b0 ∷ b1 ∷ bits) (suc i) h =
    later_phasor b0 b1 bits i ∙ pair_symbol bits i (omega arith) ∙ sym (later_symbol _ _ (phasors_of bits) i)

-- ---- the soft form on them

pub length-phasors : (bits : List ℕ) → length (phasors_of bits) ≡ 2 * symbols_in bits
unfolding phasors_of
length-phasors [] = refl
length-phasors (b ∷ []) = refl
length-phasors (b0 ∷ b1 ∷ bits) = omega (arith, length-phasors bits)

phasor_within : (c0 c1 : ℕ) → c0 < 2 → c1 < 2 → (within (phasor_of c0 c1).re ≡ true) × (within (phasor_of c0 c1).im ≡ true)
unfolding of_bits neg le
phasor_within zero zero h g = (refl, refl)
phasor_within zero (suc zero) h g = (refl, refl)
phasor_within zero (suc (suc c1)) h g = absurd (omega arith)
phasor_within (suc zero) zero h g = (refl, refl)
phasor_within (suc zero) (suc zero) h g = (refl, refl)
phasor_within (suc zero) (suc (suc c1)) h g = absurd (omega arith)
phasor_within (suc (suc c0)) c1 h g = absurd (omega arith)

none_beyond : (bits : List ℕ) → first_bad within (phasors_of bits) ≡ length (phasors_of bits)
unfolding first_bad phasors_of
none_beyond [] = refl
none_beyond (b ∷ []) = refl
none_beyond (b0 ∷ b1 ∷ bits) =
    let are = phasor_within (b0 % 2) (b1 % 2) (mod-lt b0 (lit< tt)) (mod-lt b1 (lit< tt)) in
    rw (are.0, are.1, none_beyond bits)

-- a phasor is never refused, so refusal 7 is not among the hard form's
pub hard_soft : (bits : List ℕ) (room scratch : ℕ) → hard_said bits room scratch ≡ soft_said (phasors_of bits) room scratch
unfolding soft_said hard_said
hard_soft bits room scratch =
    let phasors = phasors_of bits in
    let as_many : symbols_in phasors ≡ symbols_in bits = ap (λ (n : ℕ). n / 2) (length-phasors bits) ∙ omega arith in
    let all_taken : take (2 * symbols_in bits) phasors ≡ phasors =
    take_all (2 * symbols_in bits) phasors (omega (arith, length-phasors bits)) in
    sym (rw (as_many, all_taken, none_beyond bits, le-ltb (length phasors) (length phasors) (omega arith)))
