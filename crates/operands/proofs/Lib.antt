pub mod Conforming
pub mod Indexed
