pub mod Held
pub mod Promises
pub mod Chains
pub mod PlaceRead
pub mod Whole
