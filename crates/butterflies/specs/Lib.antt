-- Largest: sums of which the larger wins. Smallest: costs of which the smaller wins. Orderly: what an order of f32
-- metrics is asked. Orders: each of the two is such a one.
pub mod Largest
pub mod Smallest
pub mod Orderly
pub mod Orders
