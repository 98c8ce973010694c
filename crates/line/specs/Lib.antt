-- Line: the program's whole output. Promise: what the answer promises. Inner: what the inner functions ask and ensure.
pub mod Line
pub mod Promise
pub mod Inner
