pub mod Marks
pub mod Encodings
pub mod Matrices
pub mod Judging
pub mod Judgements
pub mod Mixing
pub mod Witness
pub mod Cases
