pub mod Held
mod Meeting
pub mod Numbered
