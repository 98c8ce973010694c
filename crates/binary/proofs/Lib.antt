-- Values: the number that digits make.
pub mod Values
