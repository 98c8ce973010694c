-- Table: tests of lists and tables. Search: at most one byte is found. Sound: words that begin and end with 1 and hold no 00.
-- Facts: what holds of Martinez's table. NoWord: what is no word. Entries: what a table by value says. Unique: each contract allows
-- one outcome at most.
pub mod Table
pub mod Search
pub mod Sound
pub mod Facts
pub mod NoWord
pub mod Entries
pub mod Unique
