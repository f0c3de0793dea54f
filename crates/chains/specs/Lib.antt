pub mod Riders
pub mod inner
