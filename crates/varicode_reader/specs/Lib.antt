-- Reader: what each bit brings. Records: the reader as the code holds it, and what its calls give. Promise: what the
-- entries promise. Inner: what the inner functions ensure.
pub mod Reader
pub mod Records
pub mod Promise
pub mod Inner
