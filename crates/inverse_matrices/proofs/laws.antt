pub mod Code
pub mod Inverses
