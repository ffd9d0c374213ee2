pub mod Frame
pub mod Parts
pub mod FreeBytes
pub mod Code
pub mod Built
