-- Single: one f32: is it finite, is it within ±1,024, and which number four bytes make. Whole: a float that is a whole
-- number. Bounded: a float between two bounds. Readings: f32s that lie in two places, as one list. Inner: what the
-- functions ensure.
pub mod Single
pub mod Whole
pub mod Bounded
pub mod Readings
pub mod Inner
