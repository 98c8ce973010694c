-- Written: texts behind one another. Decoding: the line's answer is the decoder's. Example: document 01's example. Cut: only the bytes that
-- the program has room for count. Unique: each contract allows one outcome at most.
pub mod Written
pub mod Decoding
pub mod Example
pub mod Cut
pub mod Unique
