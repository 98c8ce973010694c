-- Writer: what openings, bytes and closings put. Records: the writer as the code holds it, and what its calls give.
-- Promise: what the entries promise. Inner: what the inner functions ensure.
pub mod Writer
pub mod Records
pub mod Promise
pub mod Inner
