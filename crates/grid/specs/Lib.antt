pub mod Frequencies
pub mod Bench
