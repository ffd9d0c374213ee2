pub mod Calls
pub mod Next
pub mod PlainCount
pub mod PlaceRead
pub mod Kept
pub mod Zeros
