pub mod Adler
pub mod Calls
pub mod Changes
pub mod Tables
