-- Digits: a number's binary digits, and the number that digits make.
pub mod Digits
