pub mod Clashes
pub mod inner
