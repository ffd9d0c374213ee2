pub mod InverseWords
pub mod Inverses
pub mod Asked
