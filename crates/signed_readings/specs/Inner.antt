-- What the inner functions ensure. Definitions only.
use Rattle.std.specs.Prelude.{List, ◌≡◌, ℕ, ◌*◌, ◌≤◌, ◌<◌, ℤ, pos, nat_abs, length, get_or, Option, None}
use Rattle.best_path.specs.Path.{total}
use Rattle.correlation.specs.Inner as any
use Rattle.correlation.specs.Whole.{exactly}
use Rattle.refusal.specs.First.{FindsBad}
use Rattle.refusal.specs.Lent.{Lent}
use Rattle.signed_butterflies.specs.Held.{Byte}
use Rattle.trellis.specs.declared.ConvCode.{ConvCode}
use Rattle.trellis.specs.Codeword.{steps_of}
use Rattle.trellis.specs.Keep.{Keep}
use Rattle.signed_readings.specs.Said.{is_reading}

-- what a decoding finds: the score r, of at most 254 for each step, the word and the survivors
pub record Finds
    (code : ConvCode) (p : Keep) (states info : ℕ) (readings : List ℤ) (r : ℤ) (out scratch : Lent ℕ) : Type 0 where
  pub found : any.Finds exactly code p states info readings (total r) out scratch
  pub small : nat_abs r ≤ 254 * steps_of code info

-- `first_low`: the index of the first −128; where there is none, all are readings
pub record FirstLow (readings : List ℤ) (r : Option ℕ) : Type 0 where
  pub place : FindsBad is_reading readings r
  pub bytes : r ≡ None → (i : ℕ) → i < length readings → Byte (get_or readings i (pos 0))
