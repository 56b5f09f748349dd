pub mod Held
pub mod Numbered
pub mod Typed
