pub mod Answer
pub mod Numbers
pub mod Answers
pub mod Search
