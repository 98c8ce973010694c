-- Sums: correlations and metrics in f32. Decode: word, score and survivors. Inner: what the functions ensure. Sound:
-- f32s are as a decoder's numbers are asked to be.
pub mod Sums
pub mod Decode
pub mod Inner
pub mod Sound
