-- Bits: the 32 bits of a number, as the machine makes them. Told: an answer is fixed by what is said of it, and the bits tell the
-- score. Unique: each contract allows one outcome at most.
pub mod Bits
pub mod Told
pub mod Unique
