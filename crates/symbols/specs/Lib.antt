-- Costs: the phasor table and what a branch costs. Decode: the word and the survivors. Said: what the entries answer,
-- for every input. Promise: what they promise. Inner: what the inner functions ask and ensure.
pub mod Costs
pub mod Decode
pub mod Said
pub mod Promise
pub mod Inner
