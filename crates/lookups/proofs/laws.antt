pub mod Area
pub mod Layers
pub mod Words
