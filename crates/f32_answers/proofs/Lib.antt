-- Told: an answer is fixed by what document 01 says of it. Used: the search among the used readings. Unique: each contract
-- allows one outcome at most.
pub mod Told
pub mod Used
pub mod Unique
