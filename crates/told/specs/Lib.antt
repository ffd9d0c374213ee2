pub mod Told
pub mod Bits
pub mod Entries
