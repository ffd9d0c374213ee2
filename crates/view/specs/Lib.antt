pub mod Views
pub mod Serving
