-- What document 01 says of an answer: the value of an accepted call, or the number and the place of a refusal.
-- And what a refused call of a coder by value gives. Definitions only.
use Rattle.std.specs.Prelude.{Bool, true, false, cond, ◌≡◌, ℕ, ◌+◌, ◌*◌, ◌/◌, ◌%◌, ◌^◌, ltb, Result, Ok, Err}
use Rattle.refusal.specs.declared.Answered.{Answered}
use Rattle.refusal.specs.declared.Refusal.{Refusal}
use Rattle.refusal.specs.declared.Refusal.TheVariants as refusal
use Rattle.refusal.specs.Numbers.{unknown_code, unknown_rate, too_many, short_output, short_scratch, bad_reading}
use Rattle.refusal.specs.Numbers.{bad_component, bad_bit, queue_full, bad_input, bad_byte, bad_signed_byte}

pub data Said (A : Type 0) : Type 0 where
  accepted : A → Said A
  refused : (number place : ℕ) → Said A

-- nothing but that it is done
abbrev pub done : Said (Unit {0})
done = accepted tt

-- a refusal's number
abbrev pub number_of : Refusal → ℕ
number_of refusal.UnknownCode = unknown_code
number_of refusal.UnknownRate = unknown_rate
number_of refusal.TooMany = too_many
number_of refusal.ShortOutput = short_output
number_of refusal.ShortScratch = short_scratch
number_of (refusal.BadReading at) = bad_reading
number_of (refusal.BadComponent at) = bad_component
number_of refusal.BadBit = bad_bit
number_of refusal.QueueFull = queue_full
number_of refusal.BadInput = bad_input
number_of refusal.BadByte = bad_byte
number_of (refusal.BadSignedByte at) = bad_signed_byte

-- and its place: the index of the first bad value where it is about one, else 0
abbrev pub place_of : Refusal → ℕ
place_of (refusal.BadReading at) = at
place_of (refusal.BadComponent at) = at
place_of (refusal.BadSignedByte at) = at
place_of refusal.UnknownCode = 0
place_of refusal.UnknownRate = 0
place_of refusal.TooMany = 0
place_of refusal.ShortOutput = 0
place_of refusal.ShortScratch = 0
place_of refusal.BadBit = 0
place_of refusal.QueueFull = 0
place_of refusal.BadInput = 0
place_of refusal.BadByte = 0

-- what an entry answers: its value, or the refusal's number and place
abbrev pub answer_said : {A : Type 0} → Result A Refusal → Said A
answer_said (Ok a) = accepted a
answer_said (Err r) = refused (number_of r) (place_of r)

-- Refusal `number` at place 0 exactly when the test holds. Tests stand in 01's order, lowest number first, one within
-- the other; in the Varicode writer 11 comes before 9.
abbrev pub refuse_when : {A : Type 0} → Bool → ℕ → Said A → Said A
refuse_when true number rest = refused number 0
refuse_when false number rest = rest

-- an answer with its value told in another way
abbrev pub said_as : {A B : Type 0} → (A → B) → Said A → Said B
said_as value (accepted a) = accepted (value a)
said_as value (refused number place) = refused number place

-- An answer as the one number that a door returns: the count or the score's bits, or on a refusal its number times 2^32
-- plus the place.
unfoldable pub door_number : Said ℕ → ℕ
door_number (accepted n) = n
door_number (refused number place) = number * 2 ^ 32 + place

-- That number as the host reads it: below 2^32 it is the value; else the quotient by 2^32 is a refusal's number, and
-- the remainder its place.
unfoldable pub door_read : ℕ → Said ℕ
door_read n = cond (ltb n (2 ^ 32)) (accepted n) (refused (n / 2 ^ 32) (n % 2 ^ 32))

-- How a promise reads an answer: an entry's as 01 says it, a door's as the number of what 01 says.
abbrev pub Says : {A : Type 0} → Result A Refusal → Said A → Type 0
Says r said = answer_said r ≡ said

abbrev pub Numbers : ℕ → Said ℕ → Type 0
Numbers r said = r ≡ door_number said

-- what a refused call of a coder by value gives: the refusal, and the coder as it came
pub record Refuses {A C : Type 0} (why : Refusal) (coder : C) (r : Answered (Result A Refusal) C) : Type 0 where
  pub answer : r.answer ≡ Err why
  pub state : r.coder ≡ coder
