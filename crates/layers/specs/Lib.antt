pub mod Layers
pub mod Asked
