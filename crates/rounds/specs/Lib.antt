pub mod Rounds
pub mod Theorems
