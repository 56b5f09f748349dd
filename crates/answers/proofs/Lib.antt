pub mod Sums
pub mod Behind
