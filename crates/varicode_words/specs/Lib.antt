-- Table: Martinez's table. Word: the word of a byte and the byte of a word. Inner: what the inner functions ensure.
pub mod Table
pub mod Word
pub mod Inner
