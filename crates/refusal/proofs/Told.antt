-- An answer is fixed by what document 01 says of it: two answers of which it says the same are equal. And what is accepted
-- passed each test. Assumes nothing.
use mathlib.Core.Bool.{Bool, true, false}
use mathlib.Core.Path.{◌≡◌, refl, sym, ap, ap₂, ◌∙◌}
use Rattle.std.specs.Prelude.{Result, Ok, Err, IsErr, IsErrAnd}
use mathlib.Core.List.{[], ◌∷◌}
use Prim.Native.Nat.{ℕ, ◌-◌}
use lib.ListN.{get_or}
use Rattle.refusal.specs.Answer.{Said, accepted, refused, refuse_when, number_of, place_of, answer_said}
use Rattle.refusal.specs.Answer.{Says, Numbers}
use Rattle.refusal.specs.declared.Answered.{Answered}
use Rattle.refusal.specs.declared.Refusal.{Refusal}
use Rattle.refusal.specs.declared.Refusal.TheVariants as refusal
use Rattle.refusal.proofs.Determined.{Telling}

-- the refusal of a number and a place
refusal_of : (number place : ℕ) → Refusal
refusal_of number place =
    get_or
    (refusal.UnknownCode ∷ refusal.UnknownRate ∷ refusal.TooMany ∷ refusal.ShortOutput ∷ refusal.ShortScratch
    ∷ refusal.BadReading place ∷ refusal.BadComponent place ∷ refusal.BadBit ∷ refusal.QueueFull ∷ refusal.BadInput
    ∷ refusal.BadByte ∷ refusal.BadSignedByte place ∷ [])
    (number - 1) refusal.UnknownCode

itself : (r : Refusal) → refusal_of (number_of r) (place_of r) ≡ r
unfolding refusal_of
itself refusal.UnknownCode = refl
itself refusal.UnknownRate = refl
itself refusal.TooMany = refl
itself refusal.ShortOutput = refl
itself refusal.ShortScratch = refl
itself (refusal.BadReading at) = refl
itself (refusal.BadComponent at) = refl
itself refusal.BadBit = refl
itself refusal.QueueFull = refl
itself refusal.BadInput = refl
itself refusal.BadByte = refl
itself (refusal.BadSignedByte at) = refl

pub same_refusal : (q r : Refusal) → number_of q ≡ number_of r → place_of q ≡ place_of r → q ≡ r
same_refusal q r e f = sym (itself q) ∙ ap₂ refusal_of e f ∙ itself r

pub answer_told : {A : Type 0} (a b : Result A Refusal) → answer_said a ≡ answer_said b → a ≡ b
answer_told (Ok m) (Ok n) e = cc
answer_told (Ok m) (Err r) e = cc
answer_told (Err q) (Ok n) e = cc
answer_told (Err q) (Err r) e = ap Err (same_refusal q r (cc) (cc))

-- the same of each way to read an answer

pub says_tell : {A : Type 0} → Telling (Says {A = A})
says_tell said r r' p q = answer_told r r' (p ∙ sym q)

pub numbers_tell : Telling Numbers
numbers_tell said r r' p q = p ∙ sym q

-- what a call of a coder by value gives is its answer and the coder after it
pub answered_told : {A C : Type 0} (r r' : Answered A C) → r.answer ≡ r'.answer → r.coder ≡ r'.coder → r ≡ r'
answered_told {A} {C} r r' = ap₂ (λ (a : A) (c : C). record { answer = a; coder = c })

-- what a `?` hands on is the refusal itself
pub handed_on : {A : Type 0} (r : Result A Refusal) (q : Refusal) → IsErr r × IsErrAnd r (λ e. e ≡ q) → r ≡ Err q
handed_on (Ok a) q (fails, same) = absurd same
handed_on (Err e) q (fails, same) = ap Err same

-- ---- what is accepted

pub accepted_told : {A : Type 0} (a b : A) → accepted a ≡ accepted b → a ≡ b
accepted_told a b e = cc

pub accepted_past :
    {A : Type 0} (test : Bool) (number : ℕ) (rest : Said A) (a : A) →
    refuse_when test number rest ≡ accepted a → rest ≡ accepted a
accepted_past true number rest a e = cc
accepted_past false number rest a e = e

pub accepted_passed :
    {A : Type 0} (test : Bool) (number : ℕ) (rest : Said A) (a : A) → refuse_when test number rest ≡ accepted a → test ≡ false
accepted_passed true number rest a e = cc
accepted_passed false number rest a e = refl

-- ---- what a test says

pub refused_when :
    {A : Type 0} (test : Bool) (number : ℕ) (rest : Said A) → test ≡ true → refused number 0 ≡ refuse_when test number rest
refused_when test number rest e = rw e

pub passed_when : {A : Type 0} (test : Bool) (number : ℕ) (rest : Said A) → test ≡ false → rest ≡ refuse_when test number rest
passed_when test number rest e = rw e
