-- Ends: when a zero ends the word. WordEnds: what a zero that ends the word brings, as tactics are to apply it. Unique:
-- each contract allows one outcome at most.
pub mod Ends
pub mod WordEnds
pub mod Unique
