-- Steps: what one symbol does to the metrics and the history, and the lag. Inner: what the functions ask and ensure.
pub mod Steps
pub mod Inner
