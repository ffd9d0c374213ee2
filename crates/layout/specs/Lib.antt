pub mod Stages
pub mod Ciphers
pub mod Cases
pub mod Theorems
