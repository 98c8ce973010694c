-- What the inner functions of a decoder of readings ask and ensure, for any kind of decoder. Definitions only.
use Rattle.std.specs.Prelude.{List, ◌++◌, ◌⊎◌, ◌≡◌, ℕ, ◌-◌, ◌*◌, ◌^◌, ◌≤◌, ◌<◌, length, get_or, drop, Result, IfOk}
use Rattle.encoder.specs.Encode.{coded_length_of}
use Rattle.refusal.specs.declared.Refusal.{Refusal}
use Rattle.refusal.specs.Answer.{said_as, done, answer_said}
use Rattle.refusal.specs.Lent.{Lent}
use Rattle.refusal.specs.Limits.{most}
use Rattle.trellis.specs.declared.ConvCode.{ConvCode}
use Rattle.trellis.specs.declared.KeepPattern.{KeepPattern}
use Rattle.trellis.specs.Choice.{k7, code_of, pattern_of}
use Rattle.trellis.specs.Codeword.{steps_of}
use Rattle.trellis.specs.Keep.{Keep, coded_length}
use Rattle.trellis.specs.Inner.{Chooses, Rows, Halved, Crossed}
use Rattle.correlation.specs.Arithmetic.{Kind}
use Rattle.correlation.specs.Gain.{new_mets, new_froms}
use Rattle.correlation.specs.Decode.{mets, word, score, filled_rows}
use Rattle.correlation.specs.Said.{call_checked}
use Rattle.correlation.specs.declared.Prepared.{Prepared}

-- ---- one step

-- `step`: the coded bits that the even states send, and room for the survivors
pub record Steppable (code : ConvCode) (half : ℕ) (c0 c1 row : List ℕ) : Type 0 where
  pub crossed : Crossed code half c0 c1
  pub room : 2 * half ≤ length row

-- as many states as a decoder's loop is compiled for: 16 or 64, by half of them
abbrev pub Compiled : (half : ℕ) → Type 0
Compiled half = (half ≡ 8) ⊎ (half ≡ 32)

-- `step_of`: the same, for one of these
pub record SteppableOf (code : ConvCode) (half : ℕ) (c0 c1 row : List ℕ) : Type 0 where
  pub ready : Steppable code half c0 c1 row
  pub compiled : Compiled half

-- `step`, `step_of`: from the metrics `old` the new ones stand over the front of `next`, the survivors over that of
-- `row`
pub record Selects
    {A M : Type 0} (kind : Kind A M) (code : ConvCode) (old : ℕ → M) (a b : A) (next : Lent M) (row : Lent ℕ)
    : Type 0 where
  pub mets : next.left ≡ new_mets kind code old a b ++ drop (2 ^ code.width) next.given
  pub froms : row.left ≡ new_froms kind code old a b ++ drop (2 ^ code.width) row.given

-- ---- all steps

-- `forward`: a code and a keep pattern as the code holds them, and room for the survivors of the steps
pub record Runnable (code : ConvCode) (half : ℕ) (keep : KeepPattern) (steps : ℕ) (rows : List ℕ) : Type 0 where
  pub shape : Halved code half
  pub compiled : Compiled half
  pub pattern : Rows keep
  pub few : steps ≤ 65536
  pub room : steps * (2 * half) ≤ length rows

-- `forward`: state 0's last metric r, and the survivors of `states` states over the front of `rows`
pub record Runs
    {A M : Type 0} (kind : Kind A M) (code : ConvCode) (p : Keep) (states steps : ℕ) (readings : List A) (r : M)
    (rows : Lent ℕ) : Type 0 where
  pub last : r ≡ get_or (mets kind code p readings steps) 0 kind.op.mark
  pub survivors : rows.left ≡ filled_rows kind code p readings steps ++ drop (steps * states) rows.given

-- ---- the decoding

-- `decode`: a code and a keep pattern as the code holds them, and room for the word and the survivors
pub record Decodable (code : ConvCode) (half : ℕ) (keep : KeepPattern) (info : ℕ) (out scratch : List ℕ) : Type 0 where
  pub shape : Halved code half
  pub compiled : Compiled half
  pub pattern : Rows keep
  pub few : info ≤ most
  pub room : info ≤ length out
  pub rows : steps_of code info * (2 * half) ≤ length scratch

-- `decode`: the score r, the word over the front of `out`, and the survivors of `states` states over that of `scratch`
pub record Finds
    {A M : Type 0} (kind : Kind A M) (code : ConvCode) (p : Keep) (states info : ℕ) (readings : List A) (r : M)
    (out scratch : Lent ℕ) : Type 0 where
  pub scored : r ≡ score kind code p readings info
  pub output : out.left ≡ word kind code p readings info ++ drop info out.given
  pub survivors :
      scratch.left
      ≡ filled_rows kind code p readings (steps_of code info) ++ drop (steps_of code info * states) scratch.given

-- the same for what a code number and a rate number select
abbrev pub FindsAt :
    {A M : Type 0} → Kind A M → (code rate info : ℕ) → List A → M → (out scratch : Lent ℕ) → Type 0
FindsAt kind code rate info readings r out scratch =
    Finds kind (code_of code) (pattern_of code rate) (2 ^ (code_of code).width) info readings r out scratch

-- ---- which readings are used

-- `used_of`: a keep pattern as the code holds it, and steps that an info count within the limit has
pub record Usable (keep : KeepPattern) (steps : ℕ) : Type 0 where
  pub pattern : Rows keep
  pub few : steps ≤ steps_of k7 most

-- `used_of`: as many as are needed, where there are so many; few enough for a place
pub record UsedOf (need count used : ℕ) : Type 0 where
  pub short : count < need → used ≡ count
  pub enough : need ≤ count → used ≡ need
  pub few : used ≤ 65536

-- the readings that so many steps use, of which each is as asked; d stands for one that is missing
pub record UsedEach {A : Type 0} (Asked : A → Type 0) (d : A) (p : Keep) (steps : ℕ) (readings : List A) : Type 0 where
  pub each : (i : ℕ) → i < coded_length p steps → Asked (get_or readings i d)

-- ---- before the readings are looked at

-- a call that earns no refusal: what its numbers select, and how many of its `count` readings are used
pub record Ready (code rate info count : ℕ) (p : Prepared) : Type 0 where
  pub chosen : Chooses code rate p.chosen
  pub halved : p.half ≡ 2 ^ (p.chosen.code.width - 1)
  pub used : UsedOf (coded_length_of code rate info) count p.used

-- `prepare`: the refusal that a call earns, or that
pub record Prepares (code rate info count room scratch : ℕ) (r : Result Prepared Refusal) : Type 0 where
  pub decided : said_as (λ p. tt) (answer_said r) ≡ call_checked code rate info room scratch done
  pub ready : IfOk r (Ready code rate info count)
