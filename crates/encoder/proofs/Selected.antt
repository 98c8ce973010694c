-- What the code and rate numbers select, as the code holds it: the laws of the definitions at it. Assumes nothing.
use mathlib.Core.List.{List}
use mathlib.Core.Path.{◌≡◌, sym, ap, ◌∙◌}
use Prim.Native.Nat.{ℕ, ◌+◌, ◌*◌, ◌≤◌}
use native.Mathlib.Omega.{arith}
use lib.ListN.{length}
use Rattle.refusal.specs.Lent.{over, Lent}
use Rattle.trellis.specs.declared.Selected.{Selected}
use Rattle.trellis.specs.Choice.{code_of, pattern_of, keep_of}
use Rattle.trellis.specs.Keep.{Keep, coded_length}
use Rattle.trellis.specs.Inner.{Chooses, Narrow, Rows}
use Rattle.trellis.proofs.Chosen.{code_narrow, rate_represented, half_length}
use Rattle.trellis.proofs.Sent.{codeword_sent}
use Rattle.encoder.specs.Encode.{coded_length_of, encode_word, plain_word}
use Rattle.encoder.specs.Inner.{Ready, ReadyAt, Sends}

-- equal numbers select the same
pub same_choice :
    {code rate code' rate' : ℕ} {chosen : Selected} → code ≡ code' → rate ≡ rate' → Chooses code rate chosen →
    Chooses code' rate' chosen
same_choice e f is = rw (e, f) at is

module _ {code rate : ℕ} {chosen : Selected} (is : Chooses code rate chosen) where
  pub chosen_narrow : Narrow chosen.code
  chosen_narrow = rw is.taps (code_narrow code)

  pub chosen_rows : Rows chosen.keep
  chosen_rows = rw is.rows (rate_represented code rate).rows

  pub keep_chosen : keep_of chosen.keep ≡ pattern_of code rate
  keep_chosen = ap keep_of is.rows ∙ (rate_represented code rate).back

  -- the tail that the code's width adds
  pub length-chosen :
      (count : ℕ) → coded_length (keep_of chosen.keep) (count + chosen.code.width) ≡ coded_length_of code rate count
  length-chosen count = rw (keep_chosen, is.taps)

  -- the loop over what was selected is ready, and sends what the numbers say
  pub chosen_ready :
      {steps : ℕ} {out : List ℕ} → coded_length (pattern_of code rate) steps ≤ length out →
      Ready chosen.code chosen.keep steps out
  chosen_ready room = record { narrow = chosen_narrow; rows = chosen_rows; room = rw keep_chosen room }

  -- so many coded bits have room
  pub ready_at :
      {need steps : ℕ} {out : List ℕ} → need ≡ coded_length (keep_of chosen.keep) steps → need ≤ length out →
      ReadyAt code rate chosen steps out
  ready_at {need} {steps} {out} e room =
      let same = e ∙ ap (λ (p : Keep). coded_length p steps) keep_chosen in
      record { chooses = is; room = omega (arith, same, room) }

  pub chosen_sends :
      {steps : ℕ} {bits : List ℕ} {out : Lent ℕ} →
      Sends chosen.code (keep_of chosen.keep) steps bits out → Sends (code_of code) (pattern_of code rate) steps bits out
  chosen_sends sends = rw (is.taps, keep_chosen) at sends

  pub codeword_left :
      {info : List ℕ} {out : Lent ℕ} → Sends (code_of code) (pattern_of code rate) (length info + chosen.code.width) info out →
      out.left ≡ over (encode_word code rate info) out.given
  codeword_left {info} {out} sends =
      let sent = rw is.taps at sends.output in
      sent ∙ ap (λ (w : List ℕ). over w out.given) (sym (codeword_sent (code_of code) (pattern_of code rate) info))

-- the numbers 0 and 0 select what the plain encoder uses
pub length-plain : (count : ℕ) → coded_length (pattern_of 0 0) count ≡ 2 * count
unfolding pattern_of
length-plain count = half_length count

pub plain_left :
    {bits : List ℕ} {out : Lent ℕ} → Sends (code_of 0) (pattern_of 0 0) (length bits) bits out →
    out.left ≡ over (plain_word bits) out.given
unfolding plain_word code_of pattern_of
plain_left sends = sends.output
