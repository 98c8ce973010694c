-- Metrics: no metric is a NaN, so the score has bits. Unique: each contract allows one outcome at most.
pub mod Metrics
pub mod Unique
