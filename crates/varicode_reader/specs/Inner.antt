-- What the inner functions ensure, of which `push_bit` is made: a bit that joins the word, and the word forgotten.
-- Definitions only.
use Rattle.std.specs.Prelude.{◌≡◌, ℕ}
use Rattle.queue.specs.declared.Queue.{Queue}
use Rattle.queue.specs.Ring.{char_room}
use Rattle.varicode_reader.specs.declared.VaricodeDecoder.{VaricodeDecoder}
use Rattle.varicode_reader.specs.Reader.{nothing_heard, joined_to, read_heard}
use Rattle.varicode_reader.specs.Records.{reader}

pub record Joins (d : VaricodeDecoder) (b : ℕ) (r : VaricodeDecoder) : Type 0 where
  pub pauses : r.pauses ≡ d.pauses
  pub heard : (reader r).heard ≡ joined_to (read_heard (reader d).heard) b
  pub chars : r.chars ≡ d.chars

pub record Forgets (d : VaricodeDecoder) (q : Queue char_room) (r : VaricodeDecoder) : Type 0 where
  pub pauses : r.pauses ≡ d.pauses
  pub heard : (reader r).heard ≡ nothing_heard
  pub chars : r.chars ≡ q
