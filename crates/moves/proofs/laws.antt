pub mod Stages
pub mod Advanced
