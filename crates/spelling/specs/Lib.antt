pub mod Numerals
pub mod Runs
pub mod Words
