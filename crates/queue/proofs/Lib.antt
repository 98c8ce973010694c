-- Rings: what is inside a ring of any capacity, after each of its steps. Takes, Handed: taking out. Turns: a loop that puts elements in one
-- by one. Unique: each contract allows one outcome at most.
pub mod Rings
pub mod Takes
pub mod Handed
pub mod Turns
pub mod Unique
