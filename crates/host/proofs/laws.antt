pub mod Returned
