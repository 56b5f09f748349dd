pub mod FirstFalse
pub mod KeyShown
