-- Holding: how a decoder holds its metrics. Inner: what the functions ask and ensure.
pub mod Holding
pub mod Inner
