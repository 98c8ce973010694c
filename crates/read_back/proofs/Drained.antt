-- A writer from which everything was taken out refuses no call that fits in its queue, so that calls that fit can all be made, one
-- after the other. Assumes nothing.
use mathlib.Core.List.{List, [], ◌∷◌, ◌++◌, append_assoc, append-nil}
use mathlib.Core.Path.{◌≡◌, refl, sym, subst}
use Prim.Native.Nat.{ℕ, zero, suc, ◌+◌}
use native.Mathlib.Omega.{arith}
use borrow.Author.Tests.{le-ltb}
use lib.ListN.{length}
use Rattle.queue.specs.Ring.{read_as, front, bit_room}
use Rattle.queue.proofs.Handed.{front_taken, one_fewer}
use Rattle.refusal.specs.Answer.{accepted}
use Rattle.varicode_writer.specs.Writer.{Writer, Call, bits_put, too_many, put_said}
use Rattle.read_back.specs.Runs.{WriterRun, start, puts, takes, Fits, AllFit}
use Rattle.read_back.proofs.WriterRuns.{writer_holds}

pub drained_refuses_none :
    (w : Writer) (c : Call) → w.pending.count ≡ 0 → Fits c → put_said w c ≡ accepted tt
unfolding put_said too_many
drained_refuses_none w c none fits =
    let put = length (bits_put w.first c) in
    let enough = le-ltb bit_room ((read_as bit_room w.pending).count + put) (omega (arith, none, fits.few w.first)) in
    rw (fits.low, enough)

-- a run of these calls after which nothing is left
pub record Drained (calls : List Call) : Type 0 where
  pub writer : Writer
  pub sent : List ℕ
  pub wrote : WriterRun writer calls sent
  pub none : writer.pending.count ≡ 0

drained_of : (n : ℕ) {w : Writer} {calls : List Call} {out : List ℕ} → WriterRun w calls out → w.pending.count ≡ n → Drained calls
drained_of zero {w} {calls} {out} run e = record { writer = w; sent = out; wrote = run; none = e }
drained_of (suc n) {w} {calls} {out} run e =
    let within = (writer_holds run).in_range in
    drained_of n (takes run (front w.pending) (front_taken within e)) (one_fewer within e)

-- after each run everything can be taken out
pub run_drained : {w : Writer} {calls : List Call} {out : List ℕ} → WriterRun w calls out → Drained calls
run_drained run = drained_of _ run refl

one_more : {calls : List Call} → Drained calls → (c : Call) → Fits c → Drained (calls ++ c ∷ [])
one_more d c fits = run_drained (puts d.wrote c (drained_refuses_none d.writer c d.none fits))

all_more : (before calls : List Call) → Drained before → AllFit calls → Drained (before ++ calls)
all_more before [] d fit = subst Drained (sym (append-nil before)) d
all_more before (c ∷ cs) d fit =
    subst Drained (append_assoc before (c ∷ []) cs) (all_more (before ++ c ∷ []) cs (one_more d c fit.0) fit.1)

pub calls_drained : (calls : List Call) → AllFit calls → Drained calls
calls_drained calls fit = all_more [] calls (run_drained start) fit
