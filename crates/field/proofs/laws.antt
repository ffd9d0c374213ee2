pub mod OnBytes
pub mod Field
pub mod Summed
pub mod Inverse
pub mod Tables
pub mod Sbox
pub mod Cases
