pub mod Acting
pub mod Decoded
pub mod Following
pub mod Packed
pub mod Running
