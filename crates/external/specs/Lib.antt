pub mod Coding
pub mod Calls
pub mod Asked
pub mod Undoing
pub mod Exchanged
