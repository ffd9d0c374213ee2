pub mod Record
pub mod Replay
pub mod InPlace
pub mod Promises
pub mod Values
pub mod Theorems
pub mod Cases
