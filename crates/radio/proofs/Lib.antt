-- Told: the door's number tells its answer. Unique: the contract allows one outcome at most.
pub mod Told
pub mod Unique
