-- What a call leaves in a buffer that was lent to it. Definitions only.
use Rattle.std.specs.Prelude.{List, ◌++◌, ◌≡◌, ℕ, ◌+◌, ◌≤◌, length, take, drop}
use Rattle.std.specs.Borrow.{MutBor}
use denote.Triple.Both.{Both}
use Rattle.refusal.specs.Answer.{Said, accepted, refused}

-- `new` written over the front of `old`, which keeps what lies beyond
unfoldable pub over : {B : Type 0} → List B → List B → List B
over new old = new ++ drop (length new) old

-- An accepted call writes `new` at the front and nothing beyond it; a refusal changes no byte.
abbrev pub leaves : {A B : Type 0} → Said A → List B → List B → List B
leaves (accepted a) new old = over new old
leaves (refused number place) new old = old

-- a buffer that is lent to a call: what it holds at entry, and what the call leaves in it
pub record Lent (B : Type 0) : Type 0 where
  pub given : List B
  pub left : List B

abbrev pub lent : {B : Type 0} → Both (MutBor (List B)) (MutBor (List B)) → Lent B
lent out = record { given = out.entry.now; left = out.exit.now }

-- ---- pieces, one behind the other

-- room for a piece at the place `at`
abbrev pub RoomFor : {B : Type 0} → (piece : List B) → (at : ℕ) → (out : List B) → Type 0
RoomFor piece at out = at + length piece ≤ length out

-- a call that puts a piece there, and answers the place behind it
pub record PutsAt {B : Type 0} (piece : List B) (at next : ℕ) (out : Lent B) : Type 0 where
  pub place : next ≡ at + length piece
  pub output : out.left ≡ over (take at out.given ++ piece) out.given

-- ---- promises

-- The promise of a call that is lent one buffer: its answer says `said`, and it leaves in the buffer what that says.
pub record Writes
    {A B : Type 0} (Answers : Said A → Type 0) (said : Said A) (new : List B) (out : Lent B) : Type 0 where
  pub answer : Answers said
  pub output : out.left ≡ leaves said new out.given

-- The same of a call that is lent a second buffer, to work in.
pub record WritesBoth
    {A B : Type 0} (Answers : Said A → Type 0) (said : Said A) (new : List B) (out : Lent B)
    (rows : List B) (work : Lent B) : Type 0 where
  pub answer : Answers said
  pub output : out.left ≡ leaves said new out.given
  pub scratch : work.left ≡ leaves said rows work.given
