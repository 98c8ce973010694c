-- Runs: calls one after the other, from a fresh writer or reader, and what reads back. Claims: what else is claimed of
-- the readers.
pub mod Runs
pub mod Claims
