-- Behind: what stands behind the text of a line. Digits: a number's digits. Unique: each contract allows one outcome at
-- most.
pub mod Behind
pub mod Digits
pub mod Unique
