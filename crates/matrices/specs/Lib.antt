pub mod Matrices
pub mod Products
pub mod Rows
pub mod Words
pub mod ByNibbles
pub mod Cases
