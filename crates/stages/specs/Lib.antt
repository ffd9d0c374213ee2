pub mod Spread
pub mod Table
pub mod Asked
pub mod InRounds
