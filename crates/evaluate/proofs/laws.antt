pub mod Calls
pub mod Chains
pub mod Whole
pub mod PlaceRead
