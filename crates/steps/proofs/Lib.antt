-- Lists: lists of numbers, and of what they stand for. Turn: the turns of a step's loop, by the metrics as a decoder holds them.
-- Steps: one step after the other. Unique: the contract fixes what is left, and what the metric stands for.
pub mod Lists
pub mod Turn
pub mod Steps
pub mod Unique
