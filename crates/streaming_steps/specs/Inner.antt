-- What the functions ask and ensure. Definitions only.
use Rattle.std.specs.Prelude.{List, ◌++◌, ◌≡◌, ℕ, ◌+◌, ◌*◌, ◌^◌, ◌≤◌, ◌<◌, Float, drop}
use Rattle.refusal.specs.Lent.{Lent}
use Rattle.trellis.specs.Choice.{k5}
use Rattle.streaming_steps.specs.declared.Front.{Front}
use Rattle.streaming_steps.specs.Steps.{lag, rows_kept, new_mets, new_froms, normalised_at, kept, behind}

-- ---- metrics

-- `select`: the new metrics are left in `next`, the survivors over the front of `froms`
pub record SelectsNew (pm : List Float) (re im : Float) (next : Lent Float) (froms : Lent ℕ) : Type 0 where
  pub of_mets : next.left ≡ new_mets k5 pm re im
  pub of_froms : froms.left ≡ new_froms k5 pm re im ++ drop (2 ^ k5.width) froms.given

-- `normalise_after`: a front after one whose symbols so far mod 256 were `old`, its counters as they come
pub record NormalisedAfter (old : ℕ) (front r : Front) : Type 0 where
  pub pm : r.pm ≡ normalised_at old (2 ^ k5.width) front.pm
  pub count : r.count ≡ front.count
  pub turn : r.turn ≡ front.turn

-- ---- the history

-- `keep`: a row from `at` on, and what is kept there
abbrev pub RowAt : ℕ → Type 0
RowAt at = at + 2 ^ k5.width ≤ rows_kept * 2 ^ k5.width

pub record Keeps (pm : List Float) (froms : List ℕ) (at : ℕ) (history : Lent ℕ) : Type 0 where
  pub entries : history.left ≡ kept pm froms at (2 ^ k5.width) history.given

-- `state_behind`: a row and a state, and the state that lies the lag behind
pub record InHistory (row s : ℕ) : Type 0 where
  pub row_kept : row < rows_kept
  pub state_known : s < 2 ^ k5.width

pub record LiesBehind (history : List ℕ) (row s r : ℕ) : Type 0 where
  pub lies : r ≡ behind (2 ^ k5.width) history row lag s
  pub state_known : r < 2 ^ k5.width
