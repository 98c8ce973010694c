-- Wholes: readings that are whole numbers. Claim: the best word wins, first among equals, and it stays.
pub mod Wholes
pub mod Claim
