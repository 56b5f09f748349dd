pub mod Heard
pub mod Told
pub mod Version
