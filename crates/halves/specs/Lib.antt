pub mod Halves
pub mod inner
