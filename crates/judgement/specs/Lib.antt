pub mod Judge
pub mod Judgements
pub mod Asked
pub mod Cases
pub mod Witness
