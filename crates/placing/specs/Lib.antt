pub mod Riding
pub mod Found
pub mod Turns
pub mod inner
