-- Held: metrics as the code holds them, and what the functions ask and ensure. Sound: the larger of two such metrics
-- stands for the better of two totals.
pub mod Held
pub mod Sound
