pub mod Cipher
pub mod Answers
pub mod Theorems
