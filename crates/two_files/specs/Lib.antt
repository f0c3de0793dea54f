pub mod Rows
pub mod Joint
pub mod Bench
