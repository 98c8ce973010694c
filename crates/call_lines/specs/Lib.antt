-- Hex: digits as answers print them.
pub mod Hex
