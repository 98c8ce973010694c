-- Ring: a queue in an array with a head and a count. Take: taking out of it. Records: a queue as a ring, and what is
-- taken out of one. Inner: what the functions ask.
pub mod Ring
pub mod Take
pub mod Records
pub mod Inner
