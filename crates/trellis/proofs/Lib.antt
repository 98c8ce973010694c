-- Cells: the register as a number. States: what steps do to states. Ends: what a tap word's end bits do. Even: the coded bits of
-- the even states. Kept: how many places are kept. Places: what each of them reads. Sent: what is sent. Columns: a keep pattern
-- as the code holds it. Chosen: what holds of every code and pattern that a number selects. Transmitted: the code that follows
-- EN 300 744 does. Unique: each contract allows one outcome at most.
pub mod Cells
pub mod States
pub mod Ends
pub mod Even
pub mod Kept
pub mod Places
pub mod Columns
pub mod Sent
pub mod Chosen
pub mod Transmitted
pub mod Unique
