-- Patterns: which bit patterns are no NaN's, and which are finite. AllBytes: the f32s of many bytes. Ordered: `<` is a strict order.
-- Wholes: sums and comparisons of floats that are whole numbers. Bounded: sums, differences and squares of floats between bounds.
-- Ranges: floats of at least some size, and their order. RangeSums: their sums and differences. Unique: each contract allows one
-- outcome at most.
pub mod Patterns
pub mod AllBytes
pub mod Ordered
pub mod Wholes
pub mod Bounded
pub mod Ranges
pub mod RangeSums
pub mod Unique
