-- Encode: what a reader must believe. Promise: what the entries and their doors promise. Inner: what the inner
-- functions ask and ensure.
pub mod Encode
pub mod Promise
pub mod Inner
