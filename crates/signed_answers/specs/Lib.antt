-- Answer: what is said of an answer with a whole score, and how a promise reads it.
pub mod Answer
