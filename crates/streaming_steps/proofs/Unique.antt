-- Of each function that other crates may call, any two outcomes that its contract allows are equal. `Post` is the contract as the
-- prover reads it: of what the call is given, what it returns, and what it leaves in each argument. Assumes nothing.
use mathlib.Core.Path.{◌≡◌, refl, sym, ◌∙◌}
use Prim.Native.Nat.{ℕ}
use Rattle.refusal.proofs.Determined.{Once, OnceLeft, OnceBoth}
use Rattle.streaming_steps.specs.declared.Front.{Front}
use Rattle.streaming_steps.proofs.metrics.select.Reads as select
use Rattle.streaming_steps.proofs.metrics.normalise_after.Reads as normalise_after
use Rattle.streaming_steps.proofs.history.keep.Reads as keep
use Rattle.streaming_steps.proofs.history.state_behind.Reads as state_behind
use Rattle.streaming_steps.proofs.history.top_bit.Reads as top_bit

pub select_once :
    (κs re im pm next froms : _) →
    OnceBoth (λ r next' froms'.
    select.Post κs (re, (im, (pm, (next, (froms, tt))))) r (re, (im, (pm, (next', (froms', tt))))))
select_once κs re im pm next froms r r' n n' f f' p q =
    (refl, p.of_mets ∙ sym q.of_mets, p.of_froms ∙ sym q.of_froms)

front_told : (a b : Front) → a.pm ≡ b.pm → a.count ≡ b.count → a.turn ≡ b.turn → a ≡ b
front_told a b e f g = λ i. record { pm = e i; count = f i; turn = g i }

pub normalise_after-once :
    (κs turn front : _) → Once (λ (r : Front). normalise_after.Post κs (turn, (front, tt)) r (turn, (front, tt)))
normalise_after-once κs turn front r r' p q =
    front_told r r' (p.pm ∙ sym q.pm) (p.count ∙ sym q.count) (p.turn ∙ sym q.turn)

pub keep_once :
    (κs pm froms at history : _) →
    OnceLeft (λ r left. keep.Post κs (pm, (froms, (at, (history, tt)))) r (pm, (froms, (at, (left, tt)))))
keep_once κs pm froms at history r r' left left' p q = (refl, p.entries ∙ sym q.entries)

pub state_behind-once :
    (κs history row s : _) → Once (λ (r : ℕ). state_behind.Post κs (history, (row, (s, tt))) r (history, (row, (s, tt))))
state_behind-once κs history row s r r' p q = p.lies ∙ sym q.lies

pub top_bit-once : (κs s : _) → Once (λ (r : ℕ). top_bit.Post κs (s, tt) r (s, tt))
top_bit-once κs s r r' p q = p ∙ sym q
