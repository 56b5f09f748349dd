pub mod Found
pub mod Going
pub mod Roots
pub mod Stored
pub mod Stretches
pub mod Told
