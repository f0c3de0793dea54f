pub mod Places
pub mod Turns
pub mod Parts
pub mod Bench
