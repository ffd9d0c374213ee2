pub mod NextBit
pub mod Promises
pub mod Search
pub mod Theorems
