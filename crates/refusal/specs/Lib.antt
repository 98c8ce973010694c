-- Answer: what document 01 says of an answer, and how a promise reads it. First: the place of the first bad value.
-- Lent: what a call leaves in a lent buffer, and the promise of that. Limits: how much one call may bring. Numbers: the
-- refusals' numbers.
pub mod Answer
pub mod First
pub mod Lent
pub mod Limits
pub mod Numbers
