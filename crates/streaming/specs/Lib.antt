pub mod Sizes
pub mod Tallies
