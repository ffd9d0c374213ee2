pub mod Set
pub mod Made
