pub mod Code
pub mod Serving
