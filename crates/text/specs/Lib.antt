-- Text: numbers and words as the program writes them. Whole: what was written fixes a line.
pub mod Text
pub mod Whole
