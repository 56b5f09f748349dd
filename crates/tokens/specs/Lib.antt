pub mod Fixes
pub mod Scanned
pub mod Tape
pub mod Tokenized
