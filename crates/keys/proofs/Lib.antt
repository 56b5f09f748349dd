mod Answering
pub mod Records
mod Lookup
mod Listing
pub mod Checked
mod Matches
mod Entering
pub mod Conforming
