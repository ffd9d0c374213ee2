pub mod Judged
pub mod Places
pub mod Walking
pub mod Stages
