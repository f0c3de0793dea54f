pub mod Trims
pub mod inner
