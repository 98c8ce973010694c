-- Score: state 0's last metric is the score. Low: the search for −128. Used: the readings that are used. Sums: how large the sums
-- get. Unique: the contract allows one outcome at most.
pub mod Score
pub mod Low
pub mod Used
pub mod Sums
pub mod Unique
