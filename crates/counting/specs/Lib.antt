pub mod Tallied
