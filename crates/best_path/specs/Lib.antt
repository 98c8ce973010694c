-- Metric: operations on a metric. Step: one add-compare-select, in document 01's visiting order and by new state.
-- Run: steps one after the other, and the way back. Rows: rows of survivors. Inner: what a pair of states leads
-- to. Pair: the same by metrics that are held in numbers. Path: words as paths, what they gain, and which comes first.
pub mod Metric
pub mod Step
pub mod Run
pub mod Rows
pub mod Path
pub mod Inner
pub mod Pair
