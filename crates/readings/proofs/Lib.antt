-- Used: the readings that are used are finite. Surplus: readings behind those have no part in the answer. Unique: each contract allows
-- one outcome at most.
pub mod Used
pub mod Surplus
pub mod Unique
