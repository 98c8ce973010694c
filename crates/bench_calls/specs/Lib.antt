-- Stream: what a fresh streaming decoder gives for a list of symbols. Number: answers as one number. Promise: what the
-- functions promise that no entry does. Inner: what the inner functions ensure.
pub mod Stream
pub mod Number
pub mod Promise
pub mod Inner
