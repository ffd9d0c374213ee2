pub mod Listed
pub mod Runs
pub mod Skipped
pub mod Search
pub mod Calls
pub mod Proved
