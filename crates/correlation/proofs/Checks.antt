-- The refusals 1 to 5 in their order: which a call earns, and what holds where it earns none. Assumes nothing.
use mathlib.Core.Bool.{Bool, true, false, not}
use mathlib.Core.List.{List}
use mathlib.Core.Path.{◌≡◌, refl, sym, ◌∙◌}
use Prim.Native.Nat.{ℕ, ◌≤◌, ◌<◌}
use native.Mathlib.Omega.{arith}
use borrow.Author.Tests.{lt-ltb, le-ltb, ltb-false}
use lib.Dec.{ltb}
use lib.ListN.{length}
use Rattle.std.specs.Prelude.{Ok, Err}
use Rattle.encoder.specs.Promise.{Decides}
use Rattle.encoder.proofs.Checks.{choice_refused, choice_passes}
use Rattle.refusal.specs.declared.Refusal.{Refusal}
use Rattle.refusal.specs.Answer.{Said, done, refused, refuse_when, number_of, place_of}
use Rattle.refusal.specs.Limits.{most}
use Rattle.refusal.specs.Numbers.{unknown_code, unknown_rate, too_many, short_output, short_scratch}
use Rattle.trellis.specs.Choice.{known_code, known_rate}
use Rattle.correlation.specs.Amounts.{survivors_of}
use Rattle.correlation.specs.declared.Prepared.{Prepared}
use Rattle.correlation.specs.Inner.{Decodable, Prepares}
use Rattle.correlation.specs.Said.{call_checked}
use Rattle.correlation.proofs.Selected.{same_rows, chosen_decodable}

-- ---- by the five tests

abbrev five : {S : Type 0} → (a b c d e : Bool) → Said S → Said S
five a b c d e rest =
    refuse_when a unknown_code
    (refuse_when b unknown_rate (refuse_when c too_many (refuse_when d short_output (refuse_when e short_scratch rest))))

stops :
    {S : Type 0} (a b c d e : Bool) (number place : ℕ) (rest : Said S) →
    refused number place ≡ five a b c d e done → five a b c d e rest ≡ refused number place
stops true b c d e number place rest h = cc
stops false true c d e number place rest h = cc
stops false false true d e number place rest h = cc
stops false false false true e number place rest h = cc
stops false false false false true number place rest h = cc
stops false false false false false number place rest h = cc

-- which have passed where none stops
record Through (a b c d e : Bool) : Type 0 where
  pub known : a ≡ false
  pub rate_known : b ≡ false
  pub few : c ≡ false
  pub room : d ≡ false
  pub rows : e ≡ false

through : (a b c d e : Bool) → done ≡ five a b c d e done → Through a b c d e
through true b c d e h = cc
through false true c d e h = cc
through false false true d e h = cc
through false false false true e h = cc
through false false false false true h = cc
through false false false false false h = record { known = refl; rate_known = refl; few = refl; room = refl; rows = refl }

-- ---- how it is decided

pub refused_by_choice :
    {code rate info : ℕ} {r : Refusal} → Decides most code rate info (Err r) → (room scratch : ℕ) →
    refused (number_of r) (place_of r) ≡ call_checked code rate info room scratch done
refused_by_choice is room scratch = sym (choice_refused is _)

module _ {code rate info : ℕ} (is : Decides most code rate info (Ok tt)) (room scratch : ℕ) where
  pub refused_by_room : room < info → refused short_output 0 ≡ call_checked code rate info room scratch done
  refused_by_room h = sym (choice_passes is _ ∙ rw (lt-ltb room info h))

  module _ (fits : info ≤ room) {rows : ℕ} (same : rows ≡ survivors_of code info) where
    pub refused_by_scratch : scratch < rows → refused short_scratch 0 ≡ call_checked code rate info room scratch done
    refused_by_scratch h =
        sym
        (choice_passes is _ ∙ rw (le-ltb room info fits, lt-ltb scratch (survivors_of code info) (omega (arith, same, h))))

    pub none_refused : rows ≤ scratch → done ≡ call_checked code rate info room scratch done
    none_refused h =
        sym
        (choice_passes is _ ∙ rw (le-ltb room info fits, le-ltb scratch (survivors_of code info) (omega (arith, same, h))))

-- ---- what it decides

-- a refusal is the call's, whatever the readings are
pub call_refused :
    {code rate info count room scratch : ℕ} {r : Refusal} {S : Type 0} →
    Prepares code rate info count room scratch (Err r) → (rest : Said S) →
    call_checked code rate info room scratch rest ≡ refused (number_of r) (place_of r)
call_refused is rest = stops _ _ _ _ _ _ _ rest is.decided

-- what earns none goes on to the readings
module _
    {code rate info count room scratch : ℕ} {p : Prepared} (is : Prepares code rate info count room scratch (Ok p)) where
  passed :
      Through (not (known_code code)) (not (known_rate code rate)) (ltb most info) (ltb room info)
      (ltb scratch (survivors_of code info))
  passed = through _ _ _ _ _ is.decided

  pub call_passes : {S : Type 0} (rest : Said S) → call_checked code rate info room scratch rest ≡ rest
  call_passes rest = rw (passed.known, passed.rate_known, passed.few, passed.room, passed.rows)

  pub call_few : info ≤ most
  call_few = ltb-false most info passed.few

  call_room : info ≤ room
  call_room = ltb-false room info passed.room

  call_rows : survivors_of code info ≤ scratch
  call_rows = ltb-false scratch (survivors_of code info) passed.rows

  pub call_decodable :
      {out scratch' : List ℕ} → room ≡ length out → scratch ≡ length scratch' →
      Decodable p.chosen.code p.half p.chosen.keep info out scratch'
  call_decodable e f =
      chosen_decodable is.ready.chosen is.ready.halved call_few (omega (arith, e, call_room))
      (omega (arith, f, call_rows, same_rows is.ready.chosen is.ready.halved info))
