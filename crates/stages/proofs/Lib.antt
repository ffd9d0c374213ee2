-- The laws that this crate's proofs cite.
mod laws
