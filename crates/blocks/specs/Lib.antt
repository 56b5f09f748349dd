pub mod Sealed
pub mod Fields
pub mod Layout
pub mod Written
