pub mod Field
pub mod Sbox
pub mod Theorems
pub mod Cases
