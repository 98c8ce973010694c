-- Turn: the turns of the encoder's loop. Selected: what the code and rate numbers select. Checks: the refusals in their
-- order. Lengths: an accepted count is how many bits are written. Crosses: what is answered crosses a door. Unique: each
-- contract allows one outcome at most.
pub mod Turn
pub mod Selected
pub mod Checks
pub mod Lengths
pub mod Crosses
pub mod Unique
