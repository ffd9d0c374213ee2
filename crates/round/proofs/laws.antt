pub mod State
pub mod Mix
pub mod Key
pub mod Expansion
