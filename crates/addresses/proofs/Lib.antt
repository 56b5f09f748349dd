pub mod Digits
pub mod Strings
pub mod Turns
pub mod Wholes
