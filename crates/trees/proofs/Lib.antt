pub mod Marking
pub mod Stretches
pub mod Walks
pub mod Stored
pub mod Stores
pub mod Puts
