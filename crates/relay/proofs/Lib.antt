-- Reading: bytes read into a room behind those that stand there. Whole: what is written is the whole output for an input.
pub mod Reading
pub mod Whole
