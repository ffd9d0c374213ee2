pub mod Blocks
pub mod Theorems
