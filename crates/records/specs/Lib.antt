pub mod Bytes
pub mod Records
pub mod LineFiles
pub mod Area
pub mod Chains
pub mod inner
