pub mod InPlace
pub mod Layer
