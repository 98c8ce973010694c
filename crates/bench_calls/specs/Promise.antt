-- What the functions promise that no entry does. `Answers` is how the caller reads the answer (`Says r` or
-- `Numbers r`), `out` the lent buffer. Definitions only.
use Rattle.std.specs.Prelude.{List, ℕ, Float, length}
use Rattle.refusal.specs.Answer.{Said}
use Rattle.refusal.specs.Lent.{Lent, Writes}
use Rattle.bench_calls.specs.Stream.{stream_gives, stream_said}

-- `stream`, `timed_stream`: the bits of a fresh decoder fed with every symbol
abbrev pub Streams : (Said ℕ → Type 0) → (soft : List Float) → (out : Lent ℕ) → Type 0
Streams Answers soft out = Writes Answers (stream_said soft (length out.given)) (stream_gives soft) out
