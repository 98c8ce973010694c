-- Arithmetic: the numbers that readings are, and a kind of decoder. Gain: what a branch brings, and one step. Decode:
-- word, score and survivors. Amounts: how many readings and survivors. Said: what a decoder answers, for every input.
-- Promise: what an entry promises. Inner: what the inner functions of a decoder ask and ensure. Whole: the decoder in
-- whole numbers.
pub mod Arithmetic
pub mod Gain
pub mod Decode
pub mod Amounts
pub mod Said
pub mod Promise
pub mod Inner
pub mod Whole
