-- The turns of the encoder's loop: what its two puts add is what the step sends. Over any code and keep pattern. Assumes
-- nothing.
use mathlib.Core.List.{List, ◌++◌, append_assoc}
use mathlib.Core.Path.{◌≡◌, refl, sym, ap, ◌∙◌}
use Prim.Native.Nat.{ℕ, suc, ◌+◌, ◌%◌, ◌≤◌, ◌<◌}
use native.Mathlib.Nat.{mod-lt, mod-eq_of_lt}
use native.Mathlib.Numerals.{add-one}
use native.Mathlib.Omega.{arith}
use lib.Dec.{eqb}
use lib.ListN.{length, get_or, length-append}
use Rattle.refusal.specs.Lent.{over, RoomFor, PutsAt}
use Rattle.refusal.proofs.Pieces.{Fronted, fronted_none, put_sized, put_adds}
use Rattle.trellis.specs.declared.ConvCode.{ConvCode}
use Rattle.trellis.specs.declared.KeepPattern.{KeepPattern}
use Rattle.trellis.specs.declared.Pair.{Pair}
use Rattle.trellis.specs.Choice.{keep_of}
use Rattle.trellis.specs.Codeword.{coded0, coded1, sent_by, lowest_bits}
use Rattle.trellis.specs.Keep.{Keep, keeps0, keeps1, kept_of, kept_through}
use Rattle.trellis.specs.Inner.{Branch, Branched}
use Rattle.trellis.specs.State.{next_state, state_after}
use Rattle.trellis.proofs.Columns.{rows_pattern, keeps0_column, keeps1_column, column_next}
use Rattle.trellis.proofs.Kept.{length-only, coded_suc, coded_mono}
use Rattle.trellis.proofs.Sent.{length-sent, lowest_inputs, coded0_state, coded1_state}
use Rattle.trellis.proofs.States.{state_below}
use Rattle.encoder.specs.Inner.{kept_by, Ready}

-- The invariant: after t of the steps, s is the state, column is t's, and what was sent stands over the front of out.
pub record Encoded
    (code : ConvCode) (keep : KeepPattern) (bits : List ℕ) (steps : ℕ) (old : List ℕ) (t s column at : ℕ) (out : List ℕ)
    : Type 0 where
  pub ready : Ready code keep steps old
  pub turns : t ≤ steps
  pub state : s ≡ state_after code (lowest_bits bits) t
  pub counted : column ≡ t % keep.period
  pub front : Fronted (sent_by code (keep_of keep) (lowest_bits bits) t) old out at

pub encoded_starts :
    {code : ConvCode} {keep : KeepPattern} {bits : List ℕ} {steps : ℕ} {old : List ℕ} →
    Ready code keep steps old → Encoded code keep bits steps old 0 0 0 0 old
unfolding state_after sent_by kept_through
encoded_starts {old = old} ready =
    record {
      ready = ready;
      turns = omega arith;
      state = refl;
      counted = sym (mod-eq_of_lt ready.rows.some);
      front = fronted_none old;
    }

module _
    {code : ConvCode} {keep : KeepPattern} {bits : List ℕ} {steps : ℕ} {old : List ℕ} {t s column at : ℕ} {out : List ℕ}
    (now : Encoded code keep bits steps old t s column at out) where
  abbrev p : Keep
  p = keep_of keep

  abbrev inputs : List ℕ
  inputs = lowest_bits bits

  abbrev sent : List ℕ
  sent = sent_by code p inputs t

  -- what the columns make of a coded bit
  abbrev first : ℕ → List ℕ
  first v = kept_by (get_or keep.row0 column 0) v

  abbrev second : ℕ → List ℕ
  second v = kept_by (get_or keep.row1 column 0) v

  pub encoded_ends : steps ≤ t → out ≡ over (sent_by code p inputs steps) old
  encoded_ends h =
      let end : t ≡ steps = omega (arith, now.turns) in
      rw end at now.front.list

  pub column_below : column < keep.period
  column_below = rw now.counted (mod-lt t now.ready.rows.some)

  keeps_first : keeps0 p t ≡ eqb (get_or keep.row0 column 0) 1
  keeps_first = keeps0_column keep now.ready.rows t ∙ ap (λ (k : ℕ). eqb (get_or keep.row0 k 0) 1) (sym now.counted)

  keeps_second : keeps1 p t ≡ eqb (get_or keep.row1 column 0) 1
  keeps_second = keeps1_column keep now.ready.rows t ∙ ap (λ (k : ℕ). eqb (get_or keep.row1 k 0) 1) (sym now.counted)

  sent_suc :
      (sent ++ first (coded0 code inputs t)) ++ second (coded1 code inputs t) ≡ sent_by code p inputs (t + 1)
  unfolding sent_by kept_through kept_of
  sent_suc =
      rw (add-one t, keeps_first, keeps_second)
      (append_assoc sent (first (coded0 code inputs t)) (second (coded1 code inputs t)))

  -- the step's bits fit where those of all steps do
  both_fit : t < steps → (u v : ℕ) → length sent + (length (first u) + length (second v)) ≤ length old
  both_fit h u v =
      let good = rows_pattern keep now.ready.rows in
      let next = rw (keeps_first, keeps_second) at (coded_suc p good t) in
      omega (
        arith,
        next,
        coded_mono p good (suc t) steps h,
        length-sent code p good inputs t,
        length-only (eqb (get_or keep.row0 column 0) 1) u,
        length-only (eqb (get_or keep.row1 column 0) 1) v,
        now.ready.room,
      )

  pub first_fits : t < steps → (v : ℕ) → RoomFor (first v) at out
  first_fits h v = omega (arith, both_fit h v v, now.front.place, now.front.size)

  -- the input b of step t
  module _ {b : ℕ} (input : b ≡ get_or inputs t 0) where
    pub branch_now : Branch code s b
    branch_now =
        record {
          held = now.ready.narrow;
          state = rw now.state (state_below code now.ready.narrow.some inputs (lowest_inputs bits) t);
          bit = rw input (lowest_inputs bits t);
        }

    state_next : (next : ℕ) → next ≡ next_state code s b → next ≡ state_after code inputs (t + 1)
    unfolding state_after
    state_next next h = h ∙ rw (add-one t, now.state, input)

    -- the coded bits of the step
    module _ {pair : Pair} (branched : Branched code s b pair) where
      first_coded : pair.c0 ≡ coded0 code inputs t
      first_coded =
          branched.first
          ∙ rw (now.state, input) (sym (coded0_state code now.ready.narrow.some inputs (lowest_inputs bits) t))

      second_coded : pair.c1 ≡ coded1 code inputs t
      second_coded =
          branched.second
          ∙ rw (now.state, input) (sym (coded1_state code now.ready.narrow.some inputs (lowest_inputs bits) t))

      -- after the first put
      module _
          (h : t < steps) {middle : List ℕ} {behind : ℕ}
          (puts : PutsAt (first pair.c0) at behind (record { given = out; left = middle })) where
        first_put : Fronted (sent ++ first pair.c0) old middle behind
        first_put = put_adds now.front puts (put_sized (first_fits h pair.c0) puts)

        pub second_fits : (v : ℕ) → RoomFor (second v) behind middle
        second_fits v =
            omega (arith, both_fit h pair.c0 v, first_put.place, first_put.size, length-append sent (first pair.c0))

        -- after the second
        pub encoded_goes_on :
            {left : List ℕ} {next s' column' : ℕ} →
            PutsAt (second pair.c1) behind next (record { given = middle; left = left }) →
            s' ≡ next_state code s b → column' ≡ (column + 1) % keep.period →
            Encoded code keep bits steps old (t + 1) s' column' next left
        encoded_goes_on {left} {next} {s'} {column'} puts' state' counted' =
            record {
              ready = now.ready;
              turns = omega arith;
              state = state_next s' state';
              counted = column_next keep.period t column column' now.counted counted';
              front =
                  rw sent_suc at
                  (rw second_coded at
                  (rw first_coded at
                  (put_adds first_put puts' (put_sized (second_fits pair.c1) puts'))));
            }
