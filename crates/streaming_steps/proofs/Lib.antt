-- Kept: one entry of the history at a time. Back: the way back. Normal: normalisation, one metric at a time. Tables: what
-- K5 sends. Unique: each contract allows one outcome at most.
pub mod Kept
pub mod Back
pub mod Normal
pub mod Tables
pub mod Unique
