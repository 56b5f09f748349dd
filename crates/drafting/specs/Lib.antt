pub mod Opcodes
pub mod Sizes
pub mod Pieces
pub mod Assertions
pub mod Fronts
pub mod Drafts
