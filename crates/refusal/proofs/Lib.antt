-- Over: writing over the front of a list, and how a promise on a lent buffer is kept. Pieces: put one behind the other.
-- Told: an answer is fixed by what document 01 says of it. Filling: an output that is filled bit by bit. Determined: a
-- promise allows one outcome at most. FirstBad: the place of refusals 6 and 7. Doors: a door's number tells its answer.
-- Unique: each contract allows one outcome at most.
pub mod Over
pub mod Pieces
pub mod Told
pub mod Filling
pub mod Determined
pub mod FirstBad
pub mod Doors
pub mod Unique
