pub mod Bases
pub mod Words
