-- The writer hands out what was put in, in order, whatever accepted calls come between. Assumes nothing.
use mathlib.Core.Bool.{Bool, true, false}
use mathlib.Core.List.{List, [], ◌∷◌, ◌++◌, append_assoc, append-nil}
use mathlib.Core.Path.{◌≡◌, refl, sym, ap, ap₂, subst, ◌∙◌}
use Prim.Native.Nat.{ℕ, ◌+◌, ◌≤◌}
use borrow.Author.Tests.{ltb-false}
use lib.Dec.{ltb, lit<}
use lib.ListN.{length}
use Rattle.queue.specs.Ring.{Ring, InRange, read_as, put_all, inside, bit_room}
use Rattle.queue.specs.Take.{taken, left}
use Rattle.queue.proofs.Rings.{empty_in_range, inside_empty, read_in_range, put_all-in_range, inside_put_all}
use Rattle.queue.proofs.Handed.{handed, kept, behind}
use Rattle.refusal.specs.Answer.{accepted, refuse_when}
use Rattle.refusal.specs.Numbers.{queue_full, bad_byte}
use Rattle.refusal.proofs.Told.{accepted_past, accepted_passed}
use Rattle.varicode_writer.specs.Writer.{Call, bits_put, first_after, stream_from}
use Rattle.varicode_writer.specs.Writer.{Writer, fresh_writer, high_byte, too_many, put_said, put_leaves, next_leaves}
use Rattle.read_back.specs.Runs.{WriterRun, start, puts, takes, finds_none}

-- whether no byte was written, after several calls
unfoldable pub first_all : Bool → List Call → Bool
first_all first [] = first
first_all first (c ∷ cs) = first_all (first_after first c) cs

first_snoc : (first : Bool) (calls : List Call) (c : Call) → first_all first (calls ++ c ∷ []) ≡ first_after (first_all first calls) c
unfolding first_all
first_snoc first [] c = refl
first_snoc first (d ∷ calls) c = first_snoc (first_after first d) calls c

stream_snoc :
    (first : Bool) (calls : List Call) (c : Call) →
    stream_from first (calls ++ c ∷ []) ≡ stream_from first calls ++ bits_put (first_all first calls) c
unfolding stream_from first_all
stream_snoc first [] c = append-nil (bits_put first c)
stream_snoc first (d ∷ calls) c =
    ap (λ (l : List ℕ). bits_put first d ++ l) (stream_snoc (first_after first d) calls c)
    ∙ sym (append_assoc (bits_put first d) (stream_from (first_after first d) calls) (bits_put (first_all (first_after first d) calls) c))

-- what holds of a writer that a run ends in
pub record WriterHolds (w : Writer) (calls : List Call) (out : List ℕ) : Type 0 where
  pub in_range : InRange bit_room w.pending
  pub flag : w.first ≡ first_all true calls
  pub order : out ++ inside bit_room w.pending ≡ stream_from true calls

abbrev made_writer : Ring → Bool → Writer
made_writer q b = record { pending = q; first = b }

-- an accepted call gives no byte of 128 or above
accepted_low : (w : Writer) (c : Call) → put_said w c ≡ accepted tt → high_byte c ≡ false
unfolding put_said
accepted_low w c said = accepted_passed (high_byte c) bad_byte (refuse_when (too_many w c) queue_full (accepted tt)) tt said

writer_puts :
    (w : Writer) (calls : List Call) (out : List ℕ) (c : Call) → WriterHolds w calls out → put_said w c ≡ accepted tt →
    WriterHolds (put_leaves w c) (calls ++ c ∷ []) out
unfolding put_said put_leaves too_many
writer_puts w calls out c h said =
    let bits = bits_put w.first c in
    let read = read_in_range h.in_range in
    let low = accepted_low w c said in
    let over = ltb bit_room ((read_as bit_room w.pending).count + length bits) in
    let roomed = accepted_past (high_byte c) bad_byte (refuse_when over queue_full (accepted tt)) tt said in
    let free = accepted_passed over queue_full (accepted tt) tt roomed in
    let held : (read_as bit_room w.pending).count ≡ w.pending.count = ap (λ (q : Ring). q.count) read in
    let room : w.pending.count + length bits ≤ bit_room =
    rw held at (ltb-false bit_room ((read_as bit_room w.pending).count + length bits) free) in
    let same : put_leaves w c ≡ made_writer (put_all bit_room w.pending bits) (first_after w.first c) =
    rw (low, free) (ap (λ (q : Ring). made_writer (put_all bit_room q bits) (first_after w.first c)) read) in
    rw same
    (record {
      in_range = put_all-in_range h.in_range bits room;
      flag = ap (λ (b : Bool). first_after b c) h.flag ∙ sym (first_snoc true calls c);
      order =
          ap (λ (l : List ℕ). out ++ l) (inside_put_all h.in_range bits room)
          ∙ sym (append_assoc out (inside bit_room w.pending) bits)
          ∙ ap₂ (λ (l : List ℕ) (b : Bool). l ++ bits_put b c) h.order h.flag
          ∙ sym (stream_snoc true calls c);
    })

writer_takes :
    (w : Writer) (calls : List Call) (out : List ℕ) (v : ℕ) → WriterHolds w calls out → taken bit_room w.pending ≡ v ∷ [] →
    WriterHolds (next_leaves w) calls (out ++ v ∷ [])
writer_takes w calls out v h e =
    let given = handed bit_room w.pending h.in_range v e in
    record {
      in_range = given.left_in_range;
      flag = h.flag;
      order = behind out v (inside bit_room (left bit_room w.pending)) ∙ ap (λ (l : List ℕ). out ++ l) (sym given.order) ∙ h.order;
    }

writer_finds_none :
    (w : Writer) (calls : List Call) (out : List ℕ) → WriterHolds w calls out → taken bit_room w.pending ≡ [] →
    WriterHolds (next_leaves w) calls out
writer_finds_none w calls out h e =
    subst (λ (q : Ring). WriterHolds (made_writer q w.first) calls out) (sym (kept bit_room w.pending h.in_range e)) h

pub writer_holds : {w : Writer} {calls : List Call} {out : List ℕ} → WriterRun w calls out → WriterHolds w calls out
unfolding fresh_writer stream_from first_all
writer_holds start = record { in_range = empty_in_range (lit< tt); flag = refl; order = inside_empty bit_room }
writer_holds (puts {w} {calls} {out} r c said) = writer_puts w calls out c (writer_holds r) said
writer_holds (takes {w} {calls} {out} r v e) = writer_takes w calls out v (writer_holds r) e
writer_holds (finds_none {w} {calls} {out} r e) = writer_finds_none w calls out (writer_holds r) e

-- none of these calls gives a byte of 128 or above
abbrev pub AllLow : List Call → Type 0
AllLow [] = Unit
AllLow (c ∷ cs) = (high_byte c ≡ false) × AllLow cs

low_snoc : (calls : List Call) (c : Call) → AllLow calls → high_byte c ≡ false → AllLow (calls ++ c ∷ [])
low_snoc [] c all low = (low, tt)
low_snoc (d ∷ calls) c all low = (all.0, low_snoc calls c all.1 low)

-- so it is with the calls of every run, which were accepted
pub run_low : {w : Writer} {calls : List Call} {out : List ℕ} → WriterRun w calls out → AllLow calls
run_low start = tt
run_low (puts {w} {calls} r c said) = low_snoc calls c (run_low r) (accepted_low w c said)
run_low (takes r v e) = run_low r
run_low (finds_none r e) = run_low r

-- what was taken out, and what is inside, are the bits of the calls, in order
pub writer_hands_out :
    {w : Writer} {calls : List Call} {out : List ℕ} → WriterRun w calls out → out ++ inside bit_room w.pending ≡ stream_from true calls
writer_hands_out r = (writer_holds r).order

-- and where nothing is left inside, what was taken out
pub all_handed_out :
    {w : Writer} {calls : List Call} {out : List ℕ} → WriterRun w calls out → inside bit_room w.pending ≡ [] → out ≡ stream_from true calls
all_handed_out {out = out} r none = sym (append-nil out) ∙ ap (λ (l : List ℕ). out ++ l) (sym none) ∙ writer_hands_out r
