-- The proof of the examples of specs/.
pub mod laws
