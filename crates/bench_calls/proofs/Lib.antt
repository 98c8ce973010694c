-- Streamed: one symbol more, its bit put behind those that stand already. Unique: any two outcomes of a function are equal.
pub mod Streamed
pub mod Unique
