pub mod Counting
pub mod Growing
pub mod Naming
pub mod Clauses
pub mod Bytes
pub mod Walk
