-- The state as the code holds it. Definitions only.
use Rattle.std.specs.Prelude.{List, ℕ}
use Rattle.streaming_steps.specs.declared.Front.{Front}
use Rattle.streaming.specs.declared.StreamingViterbi.{StreamingViterbi}
use Rattle.streaming.specs.Stream.{State}

-- the metrics and the counters, and the history beside them
abbrev pub state_of : Front → List ℕ → State
state_of front history = record { pm = front.pm; history = history; count = front.count; turn = front.turn }

abbrev pub held : StreamingViterbi → State
held d = state_of d.front d.history
