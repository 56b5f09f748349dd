pub mod Scratch
pub mod Picking
