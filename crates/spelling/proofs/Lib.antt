mod Copies
pub mod Numbers
pub mod Spans
pub mod Tests
pub mod Steps
mod Words
