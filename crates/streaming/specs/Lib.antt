-- Stream: the state, what a symbol makes of it and gives. Run: a decoder fed a list, and a flush. Said: what entries
-- answer and leave. Life: states reached from a fresh one. Decoder: the state as the code holds it. Promise: what the
-- entries promise. Inner: what the inner functions ask and ensure.
pub mod Stream
pub mod Run
pub mod Said
pub mod Life
pub mod Decoder
pub mod Promise
pub mod Inner
