pub mod Elimination
pub mod Inverses
pub mod Rows
pub mod Work
pub mod Loops
