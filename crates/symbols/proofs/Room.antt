-- The refusals 3 to 5 in their order: what holds of a call that earns one, and of one that earns none. Assumes nothing.
use mathlib.Core.Bool.{Bool, true, false}
use mathlib.Core.List.{List}
use mathlib.Core.Path.{◌≡◌, refl}
use Prim.Native.Nat.{ℕ, ◌*◌, ◌^◌, ◌≤◌}
use native.Mathlib.Omega.{arith}
use borrow.Author.Tests.{ltb-false}
use lib.Dec.{ltb}
use lib.Ieee.{Float}
use lib.ListN.{length}
use Rattle.std.specs.Prelude.{Ok, Err}
use Rattle.refusal.specs.declared.Refusal.{Refusal}
use Rattle.refusal.specs.Answer.{Said, done, refused, refuse_when, number_of, place_of, Says}
use Rattle.refusal.specs.Limits.{most}
use Rattle.refusal.specs.Numbers.{too_many, short_output, short_scratch}
use Rattle.trellis.specs.Choice.{k5}
use Rattle.symbols.specs.Inner.{Counted, Decodable}
use Rattle.symbols.specs.Said.{room_for}
use Rattle.symbols.proofs.Selected.{k5_halved}

-- ---- by the three tests

abbrev three : {A : Type 0} → (a b c : Bool) → Said A → Said A
three a b c rest = refuse_when a too_many (refuse_when b short_output (refuse_when c short_scratch rest))

stops :
    {A : Type 0} (a b c : Bool) (number place : ℕ) (rest : Said A) →
    refused number place ≡ three a b c done → three a b c rest ≡ refused number place
stops true b c number place rest h = cc
stops false true c number place rest h = cc
stops false false true number place rest h = cc
stops false false false number place rest h = cc

-- which have passed where none stops
record Through (a b c : Bool) : Type 0 where
  pub few : a ≡ false
  pub room : b ≡ false
  pub rows : c ≡ false

through : (a b c : Bool) → done ≡ three a b c done → Through a b c
through true b c h = cc
through false true c h = cc
through false false true h = cc
through false false false h = record { few = refl; room = refl; rows = refl }

module _ (count room scratch : ℕ) where
  -- how much scratch so many symbols need
  abbrev need : ℕ
  need = count * 2 ^ k5.width

  -- a refusal is the call's, whatever else would be tested
  pub room_refused :
      {A : Type 0} (r : Refusal) → Says {A = Unit {0}} (Err r) (room_for count room scratch done) → (rest : Said A) →
      room_for count room scratch rest ≡ refused (number_of r) (place_of r)
  room_refused r is rest = stops _ _ _ _ _ rest is

  -- what earns none goes on to the rest
  module _ (is : Says (Ok tt) (room_for count room scratch done)) where
    passed : Through (ltb most count) (ltb room count) (ltb scratch need)
    passed = through _ _ _ is

    pub room_passes : {A : Type 0} (rest : Said A) → room_for count room scratch rest ≡ rest
    room_passes rest = rw (passed.few, passed.room, passed.rows)

    pub room_few : count ≤ most
    room_few = ltb-false most count passed.few

    pub room_decodable :
        {soft : List Float} {out scratch' : List ℕ} → Counted soft count → room ≡ length out →
        scratch ≡ length scratch' → Decodable k5 soft count out scratch'
    room_decodable there e f =
        record {
          ready = record {
            shape = k5_halved;
            symbols = there;
            room = omega (arith, f, ltb-false scratch need passed.rows);
          };
          room = omega (arith, e, ltb-false room count passed.room);
        }
