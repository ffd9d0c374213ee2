pub mod Matrices
pub mod Rows
pub mod Stored
pub mod Words
pub mod ByNibbles
pub mod Products
pub mod Cases
