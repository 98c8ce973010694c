-- Unique: each contract allows one outcome at most. Told: a door's number tells its answer.
pub mod Unique
pub mod Told
