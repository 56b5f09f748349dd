pub mod Rows
pub mod Stored
pub mod Matched
pub mod Picked
pub mod Sizes
pub mod Known
