pub mod Catalogue
pub mod Promises
pub mod Kernels
pub mod Theorems
