pub mod Acted
pub mod Encodings
pub mod Spread
pub mod Tables
pub mod Words
pub mod Xors
