-- Answer: what document 01 says of an answer with a score, and how a promise reads it.
pub mod Answer
