pub mod Laid
pub mod inner
