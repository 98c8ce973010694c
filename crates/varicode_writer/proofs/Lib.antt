-- Puts: the calls that put bits. Unique: each contract allows one outcome at most.
pub mod Puts
pub mod Unique
