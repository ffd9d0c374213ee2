pub mod Format
pub mod Frames
pub mod FreeBytes
pub mod Built
