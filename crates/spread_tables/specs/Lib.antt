pub mod Spread
pub mod Words
