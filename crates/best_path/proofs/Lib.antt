-- Visiting: the visiting order comes to the form by new state. Survivors: what later parts need of a step. Start: the metrics
-- before the first step. Held: a step from the metrics as a decoder holds them. Metrics: what every metric is. Stored: the
-- butterfly's loop comes to the step. Order: the order of whole numbers, and of states. Words: paths an input at a time. Choice:
-- which of two paths beats the other. BestPath: the way back is the best path. InfoWords: and from state 0 the best info word.
-- Simulation: metrics that agree step by step have runs that agree. Rows: rows of survivors. Back: the way back over them.
-- Candidates: two branches into a state, as a decoder compares them. Butterfly: the four branches of two states. Turns: the
-- butterfly's loop, turn by turn. NoBetter: no branch is better than the metric of the state that it leads to. Sizes: the
-- sizes of whole numbers. Unique: each contract allows one outcome at most.
pub mod Visiting
pub mod Survivors
pub mod Start
pub mod Held
pub mod Metrics
pub mod Stored
pub mod Order
pub mod Words
pub mod Choice
pub mod BestPath
pub mod InfoWords
pub mod Simulation
pub mod Rows
pub mod Back
pub mod Candidates
pub mod Butterfly
pub mod Turns
pub mod NoBetter
pub mod Sizes
pub mod Unique
