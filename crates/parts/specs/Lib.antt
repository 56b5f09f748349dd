pub mod Rows
pub mod Cutting
pub mod Spine
pub mod Found
