pub mod Whole
pub mod Refusals
