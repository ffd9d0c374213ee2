pub mod Linear
pub mod Values
pub mod Keys
