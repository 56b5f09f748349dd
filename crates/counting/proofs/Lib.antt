pub mod Growing
mod EntryByEntry
mod Missed
mod Decided
mod OneEntry
pub mod Stretches
