-- What the code and rate numbers select is what a decoding asks. Assumes nothing.
use mathlib.Core.List.{List}
use mathlib.Core.Logic.{inl, inr, ⊎_elim}
use mathlib.Core.Path.{◌≡◌, ap, ap₂, ◌∙◌}
use Prim.Native.Nat.{ℕ, ◌-◌, ◌*◌, ◌^◌, ◌≤◌}
use native.Mathlib.Nat.{mul-le-mul_right}
use native.Mathlib.Omega.{arith}
use lib.ListN.{length}
use lib.Pow.{pow_mono}
use Rattle.encoder.proofs.Selected.{chosen_rows, keep_chosen, length-chosen}
use Rattle.encoder.specs.Encode.{coded_length_of}
use Rattle.refusal.specs.Lent.{Lent}
use Rattle.refusal.specs.Limits.{most}
use Rattle.trellis.specs.declared.ConvCode.{ConvCode}
use Rattle.trellis.specs.declared.Selected.{Selected}
use Rattle.trellis.specs.Choice.{k7, code_of, keep_of}
use Rattle.trellis.specs.Codeword.{steps_of}
use Rattle.trellis.specs.Keep.{coded_length}
use Rattle.trellis.specs.Inner.{Chooses, Halved}
use Rattle.trellis.proofs.Chosen.{code_width, code_sized, code_narrow, code_ends}
use Rattle.trellis.proofs.States.{states_two_halves}
use Rattle.correlation.specs.Arithmetic.{Kind}
use Rattle.correlation.specs.Amounts.{survivors_of}
use Rattle.correlation.specs.Inner.{Compiled, Decodable, Finds, FindsAt, Usable, UsedOf}

pub code_few : (n : ℕ) → 2 ^ ((code_of n).width - 1) ≤ 32
code_few n = pow_mono {j = 5} (omega (arith, code_width n))

-- the loop is compiled for K5's states and for K7's
pub code_compiled : (n : ℕ) {half : ℕ} → half ≡ 2 ^ ((code_of n).width - 1) → Compiled half
code_compiled n e =
    ⊎_elim (λ w. inl (e ∙ ap (λ (width : ℕ). 2 ^ (width - 1)) w)) (λ w. inr (e ∙ ap (λ (width : ℕ). 2 ^ (width - 1)) w)) (code_sized n)

module _ (code half : ℕ) (of_half : half ≡ 2 ^ ((code_of code).width - 1)) where
  pub code_halved : Halved (code_of code) half
  code_halved =
      record {
        held = code_narrow code;
        few = omega (arith, of_half, code_few code);
        halved = of_half;
        ends = code_ends code;
      }

  pub code_states : 2 * half ≡ 2 ^ (code_of code).width
  code_states = omega (arith, of_half, states_two_halves (code_of code) (code_narrow code).some)

-- ---- as the code holds it

module _ {code rate : ℕ} {chosen : Selected} (is : Chooses code rate chosen) where
  -- within the limit a code has few steps
  pub steps_few : (info : ℕ) → info ≤ most → steps_of chosen.code info ≤ steps_of k7 most
  steps_few info h = omega (arith, h, ap (λ (c : ConvCode). c.width) is.taps, code_width code)

  pub chosen_usable : (info : ℕ) → info ≤ most → Usable chosen.keep (steps_of chosen.code info)
  chosen_usable info h = record { pattern = chosen_rows is; few = steps_few info h }

  pub used_chosen :
      (info : ℕ) {count used : ℕ} → UsedOf (coded_length (keep_of chosen.keep) (steps_of chosen.code info)) count used →
      UsedOf (coded_length_of code rate info) count used
  used_chosen info uses = rw (length-chosen is info) at uses

  module _ {half : ℕ} (g : half ≡ 2 ^ (chosen.code.width - 1)) where
    of_half : half ≡ 2 ^ ((code_of code).width - 1)
    of_half = g ∙ ap (λ (c : ConvCode). 2 ^ (c.width - 1)) is.taps

    pub same_rows : (info : ℕ) → steps_of chosen.code info * (2 * half) ≡ survivors_of code info
    same_rows info = ap₂ (λ (c : ConvCode) (n : ℕ). steps_of c info * n) is.taps (code_states code half of_half)

    pub half_few : half ≤ 32
    half_few = omega (arith, of_half, code_few code)

    -- within the limit the survivors are few
    pub rows_few : (info : ℕ) → info ≤ most → steps_of chosen.code info * (2 * half) ≤ steps_of k7 most * 64
    rows_few info h = omega (arith, mul-le-mul_right (2 * half) (steps_few info h), half_few)

    pub chosen_decodable :
        {info : ℕ} {out scratch : List ℕ} → info ≤ most → info ≤ length out →
        steps_of chosen.code info * (2 * half) ≤ length scratch →
        Decodable chosen.code half chosen.keep info out scratch
    chosen_decodable few room rows =
        record {
          shape = rw is.taps (code_halved code half of_half);
          compiled = code_compiled code of_half;
          pattern = chosen_rows is;
          few = few;
          room = room;
          rows = rows;
        }

    -- so what is found is what the numbers select
    pub finds_selected :
        {A M : Type 0} {kind : Kind A M} {info : ℕ} {readings : List A} {r : M} {out scratch : Lent ℕ} →
        Finds kind chosen.code (keep_of chosen.keep) (2 * half) info readings r out scratch →
        FindsAt kind code rate info readings r out scratch
    finds_selected finds = rw (is.taps, keep_chosen is, code_states code half of_half) at finds
