-- Unique: each contract allows one outcome at most.
pub mod Unique
