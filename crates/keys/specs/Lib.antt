pub mod Says
pub mod Names
