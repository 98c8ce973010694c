-- WriterRuns, ReaderRuns: calls one after the other. Streams: what a writer puts, and what is keyed, are bits. Words: a word and its gap,
-- read from nothing heard. Back: what a text's stream reads as. Pauses: pauses of any length, and where both readers bring the same. Third:
-- a character takes three bits. Drained, Emptied: a writer and a reader that refuse nothing. Waits: a refused bit waits. Premise: the
-- premises can be met.
pub mod WriterRuns
pub mod ReaderRuns
pub mod Streams
pub mod Words
pub mod Back
pub mod Pauses
pub mod Third
pub mod Drained
pub mod Emptied
pub mod Waits
pub mod Premise
