pub mod Writes
