pub mod Orders
pub mod Answered
