-- The laws about the definitions of specs/, for this crate and those above it.
pub mod laws
