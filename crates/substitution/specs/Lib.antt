pub mod Substituted
pub mod Asked
