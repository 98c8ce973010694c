-- WholeRun: whole numbers are decoded without rounding. Score: what a word gains is 01's score. Towards: what readings moved
-- towards a codeword do to scores. Claimed: the decoded word wins, and stays. Contract: the entries' contracts allow no other.
pub mod WholeRun
pub mod Score
pub mod Towards
pub mod Claimed
pub mod Contract
