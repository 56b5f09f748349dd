pub mod FromTheStart
pub mod Rows
pub mod Shown
