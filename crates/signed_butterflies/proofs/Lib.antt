-- Words: a signed number as the machine reads it back. Near: a metric above the floor is a sum. Sides: what the branches of a
-- turn bring. Unique: the contract fixes what the new states stand for.
pub mod Words
pub mod Near
pub mod Sides
pub mod Unique
