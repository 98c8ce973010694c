-- Inner: how the metrics are held, and what is asked of readings. Sound: whole numbers are as a decoder's
-- numbers are asked to be.
pub mod Inner
pub mod Sound
