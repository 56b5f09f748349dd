pub mod Values
pub mod Numerals
pub mod Bases
