-- The refusals in their order: those of a code, a rate and an info count, then each entry's own. Assumes nothing.
use mathlib.Core.Bool.{Bool, true, false, not}
use mathlib.Core.List.{List}
use mathlib.Core.Path.{◌≡◌, refl, ◌∙◌}
use Prim.Native.Nat.{ℕ, ◌*◌, ◌≤◌, ◌<◌}
use native.Mathlib.Omega.{arith}
use borrow.Author.Tests.{lt-ltb, le-ltb, ltb-false}
use lib.Dec.{ltb}
use lib.ListN.{length}
use Rattle.std.specs.Prelude.{Ok, Err}
use Rattle.refusal.specs.declared.Refusal.{Refusal}
use Rattle.refusal.specs.declared.Refusal.TheVariants as refusal
use Rattle.refusal.specs.Answer.{Said, accepted, done, refused, refuse_when, number_of, place_of, Says}
use Rattle.refusal.specs.Limits.{most}
use Rattle.refusal.specs.Numbers.{unknown_code, unknown_rate, too_many, short_output}
use Rattle.refusal.proofs.Told.{accepted_past}
use Rattle.trellis.specs.Choice.{codes, known_code, rates_of, known_rate}
use Rattle.trellis.proofs.Chosen.{rates_same}
use Rattle.encoder.specs.Encode.{coded_length_of, checked_to, checked, length_said, encode_said, plain_said}
use Rattle.encoder.specs.Promise.{Decides, EncodesPlain}
use Rattle.refusal.proofs.Over.{writes_refused}

-- ---- the refusal, test by test

module _ (limit code rate count : ℕ) where
  pub no_code : codes ≤ code → Decides limit code rate count (Err refusal.UnknownCode)
  no_code h = record { decided = rw (le-ltb code codes h) }

  module _ (known : code < codes) where
    pub no_rate : rates_of code ≤ rate → Decides limit code rate count (Err refusal.UnknownRate)
    no_rate h = record { decided = rw (lt-ltb code codes known, le-ltb rate (rates_of code) h) }

    module _ (known' : rate < rates_of code) where
      pub too_many_lem : limit < count → Decides limit code rate count (Err refusal.TooMany)
      too_many_lem h =
          record { decided = rw (lt-ltb code codes known, lt-ltb rate (rates_of code) known', lt-ltb limit count h) }

      pub none_refused : count ≤ limit → Decides limit code rate count (Ok tt)
      none_refused h =
          record { decided = rw (lt-ltb code codes known, lt-ltb rate (rates_of code) known', le-ltb limit count h) }

-- these, as tactics are to apply them
pub ruleset choices = (no_code, no_rate, too_many_lem, none_refused, rates_same)

-- ---- what it decides

abbrev three : {A : Type 0} → Bool → Bool → Bool → Said A → Said A
three a b c rest = refuse_when a unknown_code (refuse_when b unknown_rate (refuse_when c too_many rest))

stops :
    {A : Type 0} (a b c : Bool) (number place : ℕ) (rest : Said A) →
    refused number place ≡ three a b c done → three a b c rest ≡ refused number place
stops true b c number place rest e = cc
stops false true c number place rest e = cc
stops false false true number place rest e = cc
stops false false false number place rest e = cc

record Through (a b c : Bool) : Type 0 where
  pub first_passed : a ≡ false
  pub second_passed : b ≡ false
  pub third_passed : c ≡ false

through : (a b c : Bool) → done ≡ three a b c done → Through a b c
through true b c e = cc
through false true c e = cc
through false false true e = cc
through false false false e = record { first_passed = refl; second_passed = refl; third_passed = refl }

rest_of : {A : Type 0} {a b c : Bool} → Through a b c → (rest : Said A) → three a b c rest ≡ rest
rest_of t rest = rw (t.first_passed, t.second_passed, t.third_passed)

-- a refusal is the call's, whatever else would be tested
pub choice_refused :
    {A : Type 0} {limit code rate count : ℕ} {r : Refusal} → Decides limit code rate count (Err r) → (rest : Said A) →
    checked_to limit code rate count rest ≡ refused (number_of r) (place_of r)
choice_refused is rest = stops _ _ _ _ _ rest is.decided

-- what passes goes on to the rest
module _ {limit code rate count : ℕ} (is : Decides limit code rate count (Ok tt)) where
  passes_tests : Through (not (known_code code)) (not (known_rate code rate)) (ltb limit count)
  passes_tests = through _ _ _ is.decided

  pub choice_passes : {A : Type 0} (rest : Said A) → checked_to limit code rate count rest ≡ rest
  choice_passes rest = rest_of passes_tests rest

  pub choice_few : count ≤ limit
  choice_few = ltb-false limit count passes_tests.third_passed

  -- and so it does under a wider limit
  pub choice_passes_wider :
      {A : Type 0} (wider : ℕ) → limit ≤ wider → (rest : Said A) → checked_to wider code rate count rest ≡ rest
  choice_passes_wider wider h rest =
      rw (passes_tests.first_passed, passes_tests.second_passed, le-ltb wider count (omega (arith, choice_few)))

-- what was accepted passed them
pub checked_past :
    {A : Type 0} (code rate count : ℕ) (rest : Said A) (a : A) → checked code rate count rest ≡ accepted a → rest ≡ accepted a
checked_past code rate count rest a e =
    accepted_past (ltb most count) too_many rest a
    (accepted_past (not (known_rate code rate)) unknown_rate _ a
    (accepted_past (not (known_code code)) unknown_code _ a
    e))

-- ---- the coded length, and the encoder

module _ {code rate count : ℕ} {r : Refusal} (is : Decides most code rate count (Err r)) where
  pub length-refused : length_said code rate count ≡ refused (number_of r) (place_of r)
  unfolding length_said
  length-refused = choice_refused is _

  pub encode_refused : (room : ℕ) → encode_said code rate count room ≡ refused (number_of r) (place_of r)
  unfolding encode_said
  encode_refused room = choice_refused is _

module _ {code rate count : ℕ} (is : Decides most code rate count (Ok tt)) where
  pub length-is : length_said code rate count ≡ accepted (coded_length_of code rate count)
  unfolding length_said
  length-is = choice_passes is _

  module _ {need : ℕ} (needs : need ≡ coded_length_of code rate count) (room : ℕ) where
    pub encode_short : room < need → encode_said code rate count room ≡ refused short_output 0
    unfolding encode_said
    encode_short h = choice_passes is _ ∙ rw (← needs, lt-ltb room need h)

    pub encode_fits : need ≤ room → encode_said code rate count room ≡ accepted need
    unfolding encode_said
    encode_fits h = choice_passes is _ ∙ rw (← needs, le-ltb room need h)

-- ---- the plain encoder

pub plain_many : (count room : ℕ) → most < count → plain_said count room ≡ refused too_many 0
unfolding plain_said
plain_many count room h = rw (lt-ltb most count h)

pub plain_short : (count room : ℕ) → count ≤ most → room < 2 * count → plain_said count room ≡ refused short_output 0
unfolding plain_said
plain_short count room few h = rw (le-ltb most count few, lt-ltb room (2 * count) h)

pub plain_fits : (count room : ℕ) → count ≤ most → 2 * count ≤ room → plain_said count room ≡ accepted (2 * count)
unfolding plain_said
plain_fits count room few h = rw (le-ltb most count few, le-ltb room (2 * count) h)

-- ---- a promise that is kept by a refusal, as a tactic is to apply it: the call gives the refusal, and leaves the buffer

pub plain_refuses_many :
    (bits given : List ℕ) → most < length bits →
    EncodesPlain (Says (Err refusal.TooMany)) bits (record { given = given; left = given })
plain_refuses_many bits given many = writes_refused (plain_many (length bits) (length given) many) refl refl

pub plain_refuses_short :
    (bits given : List ℕ) → length bits ≤ most → length given < 2 * length bits →
    EncodesPlain (Says (Err refusal.ShortOutput)) bits (record { given = given; left = given })
plain_refuses_short bits given few short =
    writes_refused (plain_short (length bits) (length given) few short) refl refl

pub ruleset plain_refusals = (plain_refuses_many, plain_refuses_short)
