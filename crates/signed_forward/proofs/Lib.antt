-- Unique: each contract allows one outcome at most, of what stands for something.
pub mod Unique
