-- Said: what the decoder answers, for every input. Promise: what the entry and its door promise. Inner: what the inner
-- functions ask and ensure.
pub mod Said
pub mod Promise
pub mod Inner
