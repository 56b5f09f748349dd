pub mod Sets
pub mod Leaves
pub mod Walked
pub mod KeyByKey
