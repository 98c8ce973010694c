-- Sides: a butterfly's correlations. Turn: the turns of a step's loop. Steps: one step after the other. Rows: the way back.
-- Lengths: how much is written. Selected: what the numbers select. Used: which readings are used. Surplus: readings behind those
-- that are used have no part. Checks: the refusals 1 to 5 by one number. Answers: the refusals in their order. Limit: past the
-- limit on info nothing counts but the refusal. Crosses: the answer crosses a door. Sizes: how large the sums in whole numbers
-- get. Unique: each contract allows one outcome at most.
pub mod Sides
pub mod Turn
pub mod Steps
pub mod Rows
pub mod Lengths
pub mod Selected
pub mod Used
pub mod Surplus
pub mod Checks
pub mod Answers
pub mod Limit
pub mod Crosses
pub mod Sizes
pub mod Unique
