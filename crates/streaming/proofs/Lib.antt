-- Behind: the bit. OneSymbol: the answers of a symbol. Running: a decoder fed a list. Flushing: a flush, and its answers.
-- Lengths: a flush's count is how many bits it writes.
-- Of states reached from a fresh one: Counters: what the counters come to, and how many bits a flush gives. Way: from a state
-- to any other. Least: the least metric. Plain: one step without normalisation. Spread: several, and how far apart the
-- metrics lie after them. Lowered: what normalisation leaves. Bounds: what a metric can come to. Lives: all this whatever
-- calls were made.
-- Unique: each contract allows one outcome at most.
pub mod Behind
pub mod OneSymbol
pub mod Running
pub mod Flushing
pub mod Lengths
pub mod Counters
pub mod Way
pub mod Least
pub mod Plain
pub mod Spread
pub mod Lowered
pub mod Bounds
pub mod Lives
pub mod Unique
