pub mod Numbered
pub mod Listed
pub mod Kernels
pub mod Tables
pub mod Levels
pub mod NextRow
pub mod Unranking
pub mod Proved
