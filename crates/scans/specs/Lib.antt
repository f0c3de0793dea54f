pub mod Scans
pub mod inner
