-- Runs: the run in f32 is the run in whole numbers. Agreed: so the two decoders agree. Calls: the entries' contracts allow
-- nothing else; and demand 3 of the entry for signed bytes.
pub mod Runs
pub mod Agreed
pub mod Calls
