-- `varicode_words::bytes::entry_at`: antt computes one test over all entries. Assumes nothing.
use native.Mathlib.Omega.{arith}
use Rattle.varicode_words.specs.declared.bytes.TheConstants.{BYTES}
use Rattle.varicode_words.proofs.Entries.{right, entries_right}
use Rattle.varicode_words.proofs.bytes.entry_at.Goals as goal

pub returns : goal.returns
unfolding right
returns c = entries_right BYTES tt c.args.value (omega arith)
