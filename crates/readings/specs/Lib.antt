-- Said: what the decoder answers, for every input. Promise: what the entries and their door promise. The word, the
-- score and the survivors are defined in crate `forward`.
pub mod Said
pub mod Promise
