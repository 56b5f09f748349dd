pub mod Compared
pub mod Own
pub mod Writing
