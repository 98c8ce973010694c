-- Prices: the phasor table as the code holds it, and a coded pair's cost among the four. Turn: the turns of a step's loop. Steps:
-- symbols one after the other. Compared: metrics as states are compared by them. Least: the first least state, by a tournament. Hard:
-- the phasors of hard bits. Components: where a decoding's symbols are. Word: the way back. Lengths: an accepted count is how many
-- bits are written. Selected: the code that the entries run. Room: the refusals that both entries share, by one number. Answers: the
-- refusals in their order. Bounds: what a cost and a metric can come to. Limit: of what is accepted no sum comes to the mark.
-- Unique: each contract allows one outcome at most.
pub mod Prices
pub mod Turn
pub mod Steps
pub mod Compared
pub mod Least
pub mod Hard
pub mod Components
pub mod Word
pub mod Lengths
pub mod Selected
pub mod Room
pub mod Answers
pub mod Bounds
pub mod Limit
pub mod Unique
