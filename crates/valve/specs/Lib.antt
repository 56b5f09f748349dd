pub mod Beside
pub mod Divided
pub mod Lent
pub mod Passed
pub mod Scratch
pub mod Shown
