pub mod Reached
pub mod Reports
