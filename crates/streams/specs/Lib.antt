pub mod Digits
pub mod Lines
pub mod Written
pub mod Received
