-- Tested: a line that passes its test holds. Claim: every line of the sheet holds.
pub mod Tested
pub mod Claim
