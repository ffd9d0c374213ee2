pub mod Coding
pub mod Code
pub mod Exchanged
