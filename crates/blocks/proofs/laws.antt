pub mod Blocks
pub mod Proved
pub mod Code
