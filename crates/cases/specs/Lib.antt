pub mod Places
pub mod Names
pub mod Words
pub mod Inputs
